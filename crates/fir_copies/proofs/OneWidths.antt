-- All scenes of a circuit's modules have the same widths, since these are the least.
use Rattle.std.proofs.Common.{◌≡◌, ℕ, List, arith}
use Rattle.fir_ast.specs.Circuits.{CircuitTree}
use Rattle.fir_meaning.specs.ModuleScenes.{Scene}
use Rattle.fir_meaning.specs.WidthExpressions.{Widths}
use Rattle.fir_meaning.specs.WidthRules.{AreWidths}
use Rattle.fir_copies.specs.working.CopyLaws.{HaveWidths}
use Rattle.fir_copies.proofs.CopyPlaces.{HaveOneWidths}

-- the widths of a circuit are one assignment
pub widths_once : (c : CircuitTree) (v w : Widths) → AreWidths c v → AreWidths c w → v ≡ w
widths_once c v w h k i x = each x i
  where
    each : (x : ℕ) → v x ≡ w x
    each x =
        let low = h.least w k.meets x in
        let high = k.least v h.meets x in
        omega (arith, low, high)

pub one_widths : (c : CircuitTree) (scenes : List Scene) → HaveWidths c scenes → HaveOneWidths scenes
one_widths c scenes h s u i j = widths_once c s.widths u.widths (h s i) (h u j)
