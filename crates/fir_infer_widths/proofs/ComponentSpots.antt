-- What is declared, with its spot: the code's spot shows what the rules of faults show there.
use Rattle.std.proofs.Common.{◌≡◌, ℕ, ◌+◌, List, [], ◌∷◌, ◌++◌, Bool, true, if◌then◌else◌, flat_map, Option, Some, None, Bor, refl, sym, ap, ◌∙◌}
use Rattle.std.specs.Str.{bytes_eq}
use Rattle.fir_base.specs.declared.direction.Direction.{Direction}
use Rattle.fir_ast.specs.declared.place.Place.{Place}
use Rattle.fir_ast.specs.declared.statements.Ident.{Ident}
use Rattle.fir_ast.specs.declared.types.Ty.{Ty}
use Rattle.fir_ast.specs.Types.{DataType, uint, sint}
use Rattle.fir_ast.specs.Statements.{PlacedName, MemoryPart}
use Rattle.fir_ast.specs.working.Views.{named_of}
use Rattle.fir_ast.specs.working.TypeViews.{type_of}
use Rattle.fir_ast.specs.Circuits.{ModuleTree, CircuitTree}
use Rattle.fir_meaning.specs.Components.{Component, port, memory}
use Rattle.fir_meaning.specs.ComponentTypes.{is_input}
use Rattle.fir_meaning.specs.LeafPaths.{LeafPath, named}
use Rattle.fir_meaning.specs.MemoryTypes.{data_of_part, first_one}
use Rattle.fir_meaning.specs.TypeLeaves.{turned}
use Rattle.fir_meaning.specs.WidthExpressions.{Width, Widths, width_under}
use Rattle.fir_meaning.specs.SizedTypes.{Sized, sized_bundle, no_sized_fields, leaf_width, past, numbered}
use Rattle.fir_meaning.specs.SizedLeaves.{SizedLeaf, sized_leaves}
use Rattle.fir_meaning.specs.SizedMemories.{as_written}
use Rattle.fir_meaning.specs.SizeFaults.{leaf_over}
use Rattle.fir_meaning.specs.OverFaults.{is_leaf_over, leaves_over, with_leaves}
use Rattle.fir_meaning.specs.LegalFaults.{unwritten, port_faults}
use Rattle.fir_types.specs.working.Seen.{found_type}
use Rattle.fir_width.specs.declared.side.Side.{Side}
use Rattle.fir_infer_widths.specs.declared.spot.Spot.TheVariants as code
use Rattle.fir_infer_widths.specs.working.NumberedLeaves.{NumberedLeaf, numbered_leaves}
use Rattle.fir_width.specs.working.Sides.{IsSide}
use Rattle.fir_infer_widths.specs.working.Spots.{of_component}
use Rattle.fir_infer_widths.specs.working.SpotFaults.{IsSpot, unwritten_leaf, unwritten_in}
use Rattle.fir_infer_widths.proofs.SideLeaves.{Fitting, AreAlike}
use Rattle.fir_infer_widths.proofs.SideFaults.{side_over}
use Rattle.fir_infer_widths.proofs.WrittenLeaves.{GroundsFit, written_alike}

pub declared_spot : (c : CircuitTree) (ts : List DataType) (meant : List Width) (m : ModuleTree) (n : Bor Ident) (component : Component) (side : Side) (s : Sized)
    → IsSide ts meant side s → with_leaves component s ≡ s → port_faults c m (named_of n.now) component s ≡ []
    → IsSpot c ts meant (code.Declared n side) (of_component m (named_of n.now) component s)
declared_spot c ts meant m n component side s is leaves none = record {
  over = λ w u agrees.
      side_over meant w u agrees ts side s is n.now.place (named n.now.name ∷ []) ∙ ap (leaves_over w n.now.place (named n.now.name ∷ [])) (sym leaves);
  legal = λ w u agrees. sym none;
}

-- a width is unwritten where the type says none
abbrev IsUnwritten : PlacedName → Fitting
IsUnwritten n = λ number t w. (path : LeafPath) → unwritten_leaf n path t ≡ unwritten n.place (named n.name ∷ path) w

abbrev IsSome : Option ℕ → Type 0
IsSome at = (k : ℕ) × (at ≡ Some k)

some_past : (n : ℕ) (at : Option ℕ) → IsSome at → IsSome (past n at)
some_past n at is = (is.0 + n, ap (past n) is.1)

module _ (n : PlacedName) where
  none_told : (k : ℕ) (w : Option ℕ) (path : LeafPath) → unwritten_leaf n path (uint w) ≡ unwritten n.place (named n.name ∷ path) (leaf_width (Some k) w)
  none_told k None path = refl
  none_told k (Some w) path = refl

  none_told_signed : (k : ℕ) (w : Option ℕ) (path : LeafPath) → unwritten_leaf n path (sint w) ≡ unwritten n.place (named n.name ∷ path) (leaf_width (Some k) w)
  none_told_signed k None path = refl
  none_told_signed k (Some w) path = refl

  unwritten_grounds : (at : Option ℕ) → IsSome at → GroundsFit (IsUnwritten n) at
  unwritten_grounds at is = rw is.1 (record {
    of_uint = λ number w. none_told is.0 w;
    of_sint = λ number w. none_told_signed is.0 w;
    of_clock = λ number path. refl;
    of_reset = λ number path. refl;
    of_async = λ number path. refl;
  })

  unwritten_alike : (inward : Bool) (ls : List NumberedLeaf) (ss : List SizedLeaf) → AreAlike (IsUnwritten n) ls ss
      → unwritten_in n inward ls ≡ flat_map (λ l. if turned inward l.flip then unwritten n.place (named n.name ∷ l.path) l.width else []) ss
  unwritten_alike inward [] [] h = refl
  unwritten_alike inward [] (s ∷ ss) h = absurd h
  unwritten_alike inward (l ∷ ls) [] h = absurd h
  unwritten_alike inward (l ∷ ls) (s ∷ ss) h = rw (h.0.path, h.0.flip, h.0.fits s.path, unwritten_alike inward ls ss h.1) refl

pub port_spot : (c : CircuitTree) (ts : List DataType) (meant : List Width) (m : ModuleTree) (n : Bor Ident) (d : Direction) (t : DataType) (k : ℕ) (side : Side)
    → IsSide ts meant side (numbered (Some k) t) → found_type ts side.found ≡ t → bytes_eq m.named.name c.named.name ≡ true
    → IsSpot c ts meant (code.Port d n side) (of_component m (named_of n.now) (port d t) (numbered (Some k) t))
port_spot c ts meant m n d t k side is found main = record {
  over = λ w u agrees. side_over meant w u agrees ts side (numbered (Some k) t) is n.now.place (named n.now.name ∷ []);
  legal = λ w u agrees.
      rw (main, found) (unwritten_alike (named_of n.now) (is_input d) (numbered_leaves side.first t) (sized_leaves (numbered (Some k) t))
      (written_alike (IsUnwritten (named_of n.now)) IsSome some_past (unwritten_grounds (named_of n.now)) side.first (Some k) (k, refl) t));
}

-- what has no numbers has the widths that are written, under each assignment
abbrev IsNone : Option ℕ → Type 0
IsNone at = at ≡ None

none_past : (n : ℕ) (at : Option ℕ) → IsNone at → IsNone (past n at)
none_past n at is = ap (past n) is

module _ (v w : Widths) where
  abbrev HasOneWidth : Fitting
  HasOneWidth = λ number t width. width_under width v ≡ width_under width w

  one_width : (k : Option ℕ) → width_under (leaf_width None k) v ≡ width_under (leaf_width None k) w
  one_width None = refl
  one_width (Some k) = refl

  one_grounds : (at : Option ℕ) → IsNone at → GroundsFit HasOneWidth at
  one_grounds at is = rw is (record {
    of_uint = λ number k. one_width k;
    of_sint = λ number k. one_width k;
    of_clock = λ number. refl;
    of_reset = λ number. refl;
    of_async = λ number. refl;
  })

  same_over : (p : Place) (path : LeafPath) (ls : List NumberedLeaf) (ss : List SizedLeaf) → AreAlike HasOneWidth ls ss
      → flat_map (λ l. if is_leaf_over v l then leaf_over p (path ++ l.path) ∷ [] else []) ss
      ≡ flat_map (λ l. if is_leaf_over w l then leaf_over p (path ++ l.path) ∷ [] else []) ss
  same_over p path [] [] h = refl
  same_over p path [] (s ∷ ss) h = absurd h
  same_over p path (l ∷ ls) [] h = absurd h
  same_over p path (l ∷ ls) (s ∷ ss) h = rw (h.0.fits, same_over p path ls ss h.1) refl

  written_over_same : (p : Place) (path : LeafPath) (t : DataType) → leaves_over v p path (numbered None t) ≡ leaves_over w p path (numbered None t)
  written_over_same p path t =
      same_over p path (numbered_leaves 0 t) (sized_leaves (numbered None t)) (written_alike HasOneWidth IsNone none_past one_grounds 0 None refl t)

pub array_spot : (c : CircuitTree) (ts : List DataType) (meant : List Width) (m : ModuleTree) (n : Bor Ident) (ty : Bor Ty) (parts : List MemoryPart)
    → first_one (flat_map data_of_part parts) ≡ Some (type_of ty.now)
    → IsSpot c ts meant (code.Array n ty) (of_component m (named_of n.now) (memory parts) (sized_bundle no_sized_fields))
array_spot c ts meant m n ty parts first = record {
  over = λ w u agrees.
      written_over_same (λ k. 0) w n.now.place (named n.now.name ∷ []) (type_of ty.now)
      ∙ ap (λ o. leaves_over w n.now.place (named n.now.name ∷ []) (as_written o)) (sym first);
  legal = λ w u agrees. refl;
}
