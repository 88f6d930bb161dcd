-- A type holds as much as it has leaves.
use Rattle.std.proofs.Common.{◌≡◌, ℕ, zero, suc, ◌+◌, List, map, length, refl, arith, length-append, false, Option, None}
use Rattle.std.specs.Prelude.{◌==◌, if◌then◌else◌}
use Rattle.std.proofs.lemmas.List.{length-map}
use Rattle.fir_ast.specs.Types.{DataType, uint, sint, clock, reset, async_reset, bundle, vector, Fields, no_fields, field}
use Rattle.fir_meaning.specs.LeafPaths.{named, element}
use Rattle.fir_meaning.specs.TypeLeaves.{TypeLeaf, element_leaves, field_leaves, type_leaves, under}
use Rattle.fir_meaning.specs.SharedLeaves.{shared_count}
use Rattle.fir_meaning.specs.SizedTypes.{numbered, numbered_fields, past}
use Rattle.fir_meaning.specs.WidthExpressions.{Widths}
use Rattle.fir_meaning.specs.LeafTypes.{LeafType}
use Rattle.fir_meaning.specs.HeldTypes.{held_field_types, held_types, repeated}

long_elements : (i n : ℕ) (ls : List TypeLeaf) (hs : List LeafType) → length ls ≡ length hs → length (element_leaves i n ls) ≡ length (repeated n hs)
long_elements i zero ls hs e = refl
long_elements i (suc n) ls hs e =
    omega (
      arith,
      e,
      length-append (map (under false (element i)) ls) (element_leaves (i + 1) n ls),
      length-map ls (under false (element i)),
      length-append hs (repeated n hs),
      long_elements (i + 1) n ls hs e,
    )

-- a type holds as much as it has leaves
mutual
  pub held_long : (w : Widths) (at : Option ℕ) (t : DataType) → length (type_leaves t) ≡ length (held_types w (numbered at t))
  held_long w at (uint x) = refl
  held_long w at (sint x) = refl
  held_long w at clock = refl
  held_long w at reset = refl
  held_long w at async_reset = refl
  held_long w at (bundle fs) = held_fields_long w at fs
  held_long w at (vector t n) = long_elements 0 n (type_leaves t) _ (held_long w (if n == 0 then None else at) t)

  held_fields_long : (w : Widths) (at : Option ℕ) (fs : Fields) → length (field_leaves fs) ≡ length (held_field_types w (numbered_fields at fs))
  held_fields_long w at no_fields = refl
  held_fields_long w at (field p flip x begins t rest) =
      omega (
        arith,
        length-append (map (under flip (named x)) (type_leaves t)) (field_leaves rest),
        length-map (type_leaves t) (under flip (named x)),
        held_long w at t,
        held_fields_long w (past (shared_count t) at) rest,
        length-append (held_types w (numbered at t)) (held_field_types w (numbered_fields (past (shared_count t) at) rest)),
      )
