-- The walk over a memory: its leaves stand in its ports, or without ports its words are left.
use Rattle.std.proofs.Common.{◌≡◌, ℕ, List, [], ◌∷◌, Bool, true, false, not, length, Option, Some, None, Bor, refl, sym, ap, ◌∙◌, arith}
use Rattle.std.specs.Prelude.{◌==◌, flat_map}
use Rattle.std.proofs.lemmas.Option.{none-some, same_Some}
use Rattle.fir_ast.specs.declared.place.Place.{Place}
use Rattle.fir_ast.specs.declared.statements.Ident.{Ident}
use Rattle.fir_ast.specs.declared.types.Ty.{Ty}
use Rattle.fir_ast.specs.Types.{DataType, uint, sint, clock, reset, async_reset, bundle, vector, Fields, no_fields, field}
use Rattle.fir_ast.specs.Statements.{MemoryPart}
use Rattle.fir_ast.specs.working.Views.{named_of}
use Rattle.fir_ast.specs.working.TypeViews.{type_of}
use Rattle.fir_ast.specs.Circuits.{CircuitTree, ModuleTree}
use Rattle.fir_meaning.specs.Checked.{joined}
use Rattle.fir_meaning.specs.Components.{memory}
use Rattle.fir_meaning.specs.MemoryTypes.{data_of_part, depth_of_part, first_one, memory_bundle, memory_type}
use Rattle.fir_meaning.specs.OverFaults.{with_leaves}
use Rattle.fir_meaning.specs.SizedTypes.{numbered}
use Rattle.fir_meaning.specs.WidthExpressions.{Width}
use Rattle.fir_type_table.specs.declared.entry.Member.{Member}
use Rattle.fir_type_table.specs.working.Tables.{member_fields, shown}
use Rattle.fir_width.specs.declared.side.Side.{Side}
use Rattle.fir_infer_widths.specs.declared.spot.Spot.TheVariants as code
use Rattle.fir_infer_widths.specs.working.Ports.{has_fields}
use Rattle.fir_width.specs.working.Sides.{IsSide}
use Rattle.fir_infer_widths.specs.working.SpotFaults.{IsSpot}
use Rattle.fir_infer_widths.specs.working.Spots.{of_component}
use Rattle.fir_infer_widths.proofs.ComponentSpots.{array_spot, declared_spot}

-- a bundle without its widths has as many fields
shown_fields : (is_bare : Bool) (t : DataType) → has_fields (shown is_bare t) ≡ has_fields t
shown_fields false t = refl
shown_fields true (uint w) = refl
shown_fields true (sint w) = refl
shown_fields true clock = refl
shown_fields true reset = refl
shown_fields true async_reset = refl
shown_fields true (bundle no_fields) = refl
shown_fields true (bundle (field p flip x begins t rest)) = refl
shown_fields true (vector t n) = refl

pub bundle_ports : (ts : List DataType) (is_bare : Bool) (t : DataType) (ms : List Member) → t ≡ bundle (member_fields ts ms) → not (length ms == 0) ≡ has_fields (shown is_bare t)
bundle_ports ts is_bare t ms is = counted ms ∙ sym (ap has_fields is) ∙ sym (shown_fields is_bare t)
  where
    counted : (ns : List Member) → not (length ns == 0) ≡ has_fields (bundle (member_fields ts ns))
    counted [] = refl
    counted (n ∷ ns) = grind arith

-- the type of a memory is a bundle
is_bundle : (p : Place) (parts : List MemoryPart) (t : DataType) → memory_type p parts ≡ Some t → (fs : Fields) × (t ≡ bundle fs)
is_bundle p parts t = of_both (first_one (flat_map data_of_part parts)) (first_one (flat_map depth_of_part parts))
  where
    of_both : (a : Option DataType) (b : Option ℕ) → joined (memory_bundle p parts) a b ≡ Some t → (fs : Fields) × (t ≡ bundle fs)
    of_both (Some x) (Some y) h = (_, sym (same_Some _ t h))
    of_both (Some x) None h = absurd (none-some t h)
    of_both None b h = absurd (none-some t h)

-- and the type of its words is written
pub words_written : (p : Place) (parts : List MemoryPart) (t : DataType) → memory_type p parts ≡ Some t → first_one (flat_map data_of_part parts) ≡ None → ⊥
words_written p parts t typed none = none-some t (sym (ap (λ a. joined (memory_bundle p parts) a (first_one (flat_map depth_of_part parts))) none) ∙ typed)

module _ (c : CircuitTree) (ts : List DataType) (meant : List Width) (m : ModuleTree) (n : Bor Ident) (parts : List MemoryPart) (t : DataType)
    (typed : memory_type n.now.place parts ≡ Some t) where
  pub words_spot : (ty : Bor Ty) → has_fields t ≡ false → first_one (flat_map data_of_part parts) ≡ Some (type_of ty.now)
      → IsSpot c ts meant (code.Array n ty) (of_component m (named_of n.now) (memory parts) (numbered None t))
  words_spot ty empty first = let b = is_bundle n.now.place parts t typed in at b.0 b.1
    where
      at : (fs : Fields) → t ≡ bundle fs → IsSpot c ts meant (code.Array n ty) (of_component m (named_of n.now) (memory parts) (numbered None t))
      at no_fields is = rw is (array_spot c ts meant m n ty parts first)
      at (field p flip x begins u rest) is = absurd (let e : true ≡ false = sym (ap has_fields is) ∙ empty in cc)

  pub ports_spot : (side : Side) → IsSide ts meant side (numbered None t) → has_fields t ≡ true
      → IsSpot c ts meant (code.Declared n side) (of_component m (named_of n.now) (memory parts) (numbered None t))
  ports_spot side is some = let b = is_bundle n.now.place parts t typed in declared_spot c ts meant m n (memory parts) side (numbered None t) is (at b.0 b.1) refl
    where
      at : (fs : Fields) → t ≡ bundle fs → with_leaves (memory parts) (numbered None t) ≡ numbered None t
      at no_fields is = absurd (let e : false ≡ true = sym (ap has_fields is) ∙ some in cc)
      at (field p flip x begins u rest) is = rw is refl
