-- Types, as plain data (FIRRTL spec, "Types").
use Rattle.std.specs.Prelude.{ℕ, List, Bool, Option}
use Rattle.fir_ast.specs.declared.place.Place.{Place}

mutual
  pub data DataType : Type 0 where
    uint : Option ℕ → DataType
    sint : Option ℕ → DataType
    clock : DataType
    reset : DataType
    async_reset : DataType
    bundle : Fields → DataType
    vector : DataType → ℕ → DataType

  -- where the name stands, whether it is flipped, the name, where the type begins, the type
  pub data Fields : Type 0 where
    no_fields : Fields
    field : Place → Bool → List ℕ → Place → DataType → Fields → Fields
