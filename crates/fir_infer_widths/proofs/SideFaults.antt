-- What is over at the leaves of a side is what is over at those of the sized type.
use Rattle.std.proofs.Common.{◌≡◌, List, [], ◌∷◌, ◌++◌, if◌then◌else◌, flat_map, refl, ap}
use Rattle.fir_ast.specs.declared.place.Place.{Place}
use Rattle.fir_ast.specs.Types.{DataType}
use Rattle.fir_meaning.specs.LeafPaths.{LeafPath}
use Rattle.fir_meaning.specs.WidthExpressions.{Width, Widths}
use Rattle.fir_meaning.specs.SizedTypes.{Sized}
use Rattle.fir_meaning.specs.SizedLeaves.{SizedLeaf, sized_leaves}
use Rattle.fir_meaning.specs.SizeFaults.{leaf_over}
use Rattle.fir_meaning.specs.OverFaults.{is_leaf_over, leaves_over, has_over}
use Rattle.fir_width.specs.declared.side.Side.{Side}
use Rattle.fir_infer_widths.specs.working.Numbered.{Agrees}
use Rattle.fir_infer_widths.specs.working.NumberedLeaves.{NumberedLeaf}
use Rattle.fir_width.specs.working.Sides.{IsSide}
use Rattle.fir_infer_widths.specs.working.SpotFaults.{is_over, leaves_of_side, numbers_over, is_any_over}
use Rattle.fir_infer_widths.proofs.SideLeaves.{AreAlike, IsAlike, HasWidth, side_alike}

module _ (meant : List Width) (w u : Widths) (agrees : Agrees meant w u) where
  same_over : (l : NumberedLeaf) (s : SizedLeaf) → IsAlike (HasWidth meant) l s → is_over (u l.number) ≡ is_leaf_over w s
  same_over l s h = ap is_over (agrees l.number s.width h.fits)

  numbers_alike : (p : Place) (path : LeafPath) (ls : List NumberedLeaf) (ss : List SizedLeaf) → AreAlike (HasWidth meant) ls ss
      → numbers_over u p path ls ≡ flat_map (λ s. if is_leaf_over w s then leaf_over p (path ++ s.path) ∷ [] else []) ss
  numbers_alike p path [] [] h = refl
  numbers_alike p path [] (s ∷ ss) h = absurd h
  numbers_alike p path (l ∷ ls) [] h = absurd h
  numbers_alike p path (l ∷ ls) (s ∷ ss) h = rw (same_over l s h.0, h.0.path, numbers_alike p path ls ss h.1) refl

  any_alike : (ls : List NumberedLeaf) (ss : List SizedLeaf) → AreAlike (HasWidth meant) ls ss → is_any_over u ls ≡ has_over w ss
  any_alike [] [] h = refl
  any_alike [] (s ∷ ss) h = absurd h
  any_alike (l ∷ ls) [] h = absurd h
  any_alike (l ∷ ls) (s ∷ ss) h = rw (same_over l s h.0, any_alike ls ss h.1) refl

  module _ (ts : List DataType) (side : Side) (s : Sized) (is : IsSide ts meant side s) where
    pub side_over : (p : Place) (path : LeafPath) → numbers_over u p path (leaves_of_side ts side) ≡ leaves_over w p path s
    side_over p path = numbers_alike p path (leaves_of_side ts side) (sized_leaves s) (side_alike ts meant side s is)

    pub side_any_over : is_any_over u (leaves_of_side ts side) ≡ has_over w (sized_leaves s)
    side_any_over = any_alike (leaves_of_side ts side) (sized_leaves s) (side_alike ts meant side s is)
