-- Types that a table holds under their ids: as the table grows, and as it finds them.
use Rattle.std.proofs.Common.{◌≡◌, ℕ, List, ◌++◌, slice_get, Some, refl, ap, ◌∙◌, append_assoc}
use Rattle.std.proofs.lemmas.Option.{slice_get_within}
use Rattle.fir_base.proofs.Elements.{get_left}
use Rattle.fir_ast.specs.Types.{DataType}
use Rattle.fir_type_table.specs.declared.entry.Entry.{Entry}
use Rattle.fir_type_table.specs.working.Tables.{type_at, types_of}

pub still_held : (ts more : List DataType) (k : ℕ) (t : DataType) → slice_get ts k ≡ Some t → slice_get (ts ++ more) k ≡ Some t
still_held ts more k t at = get_left ts more k (slice_get_within ts k t at) ∙ at

pub type_held : (ts : List DataType) (k : ℕ) (t : DataType) → slice_get ts k ≡ Some t → type_at ts k ≡ t
type_held ts k t at = rw at refl

-- a table that has grown once and once more
pub grown_twice : (old next new : List Entry) (more others : List DataType) → types_of next ≡ types_of old ++ more → types_of new ≡ types_of next ++ others
    → types_of new ≡ types_of old ++ (more ++ others)
grown_twice old next new more others one two = two ∙ ap (λ ts. ts ++ others) one ∙ append_assoc (types_of old) more others

pub grown_held : (old new : List Entry) (more : List DataType) (k : ℕ) (t : DataType) → types_of new ≡ types_of old ++ more → slice_get (types_of old) k ≡ Some t
    → slice_get (types_of new) k ≡ Some t
grown_held old new more k t grown at = rw grown (still_held (types_of old) more k t at)
