-- What the entry of an id tells of its type. A number that the table does not have counts as a UInt.
use Rattle.std.specs.Prelude.{◌≡◌, ℕ, List, Some, None, slice_get}
use Rattle.fir_ast.specs.Types.{uint}
use Rattle.fir_meaning.specs.TypeLeaves.{leaf_count}
use Rattle.fir_meaning.specs.TypeKinds.{is_passive, is_numeric, is_sized}
use Rattle.fir_meaning.specs.SharedLeaves.{shared_count}
use Rattle.fir_type_table.specs.declared.entry.Entry.{Entry}
use Rattle.fir_type_table.specs.working.Tables.{type_at, made_of, types_of}
use Rattle.fir_type_table.specs.working.Fits.{FitsAt}
use Rattle.fir_type_table.specs.working.Saturated.{saturated}

pub record IsReadAt (es : List Entry) (i : ℕ) (e : Entry) : Type 0 where
  pub here : slice_get es i ≡ Some e
  pub fits : FitsAt (types_of es) i e
  pub type_is : type_at (types_of es) i ≡ made_of (types_of es) e.kind e.members.items
  pub leaves : e.leaves ≡ saturated (leaf_count (type_at (types_of es) i))
  pub shared : e.shared_leaves ≡ saturated (shared_count (type_at (types_of es) i))
  pub passive : e.is_passive ≡ is_passive (type_at (types_of es) i)
  pub numeric : e.is_numeric ≡ is_numeric (type_at (types_of es) i)
  pub sized : e.is_sized ≡ is_sized (type_at (types_of es) i)

pub record IsPast (es : List Entry) (i : ℕ) : Type 0 where
  pub none : slice_get es i ≡ None
  pub type_is : type_at (types_of es) i ≡ uint None
