-- Expressions and references, as plain data (FIRRTL spec, "Expressions").
use Rattle.std.specs.Prelude.{ℕ, List}
use Rattle.fir_bits.specs.declared.operators.PrimOp.{PrimOp}
use Rattle.fir_ast.specs.declared.place.Place.{Place}
use Rattle.fir_ast.specs.declared.expressions.Literal.{Literal}

mutual
  pub data Expression : Type 0 where
    reference : Place → List ℕ → Parts → Expression
    literal : Literal → Expression
    operation : Place → PrimOp → Expressions → List ℕ → Expression
    mux : Place → Expression → Expression → Expression → Expression
    validif : Place → Expression → Expression → Expression

  -- where the `.` or the `[` stands; of a name and of a plain number where it stands
  pub data Parts : Type 0 where
    no_parts : Parts
    subfield : Place → Place → List ℕ → Parts → Parts
    subindex : Place → Place → ℕ → Parts → Parts
    subaccess : Place → Expression → Parts → Parts

  pub data Expressions : Type 0 where
    no_expressions : Expressions
    expression : Expression → Expressions → Expressions
