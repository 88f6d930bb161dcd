-- The widths of leaves are those of any least assignment.
use Rattle.std.proofs.Common.{◌≡◌, ℕ, ◌≤◌, List, Some, ◌∙◌, arith}
use Rattle.std.specs.Prelude.{slice_get}
use Rattle.fir_bits.specs.working.Laws.{Monotone}
use Rattle.fir_ast.specs.Circuits.{CircuitTree}
use Rattle.fir_meaning.specs.WidthExpressions.{Width, Widths, width_under, Rule, IsLeastOf}
use Rattle.fir_meaning.specs.WidthRules.{rules, AreWidths}
use Rattle.fir_meaning.proofs.LeastRules.{width_grows, one_least}
use Rattle.fir_meaning.specs.working.AssignedWidths.{assigned}
use Rattle.fir_width.specs.working.DeclaredWidths.{leaf_widths}
use Rattle.fir_width.specs.working.Fitting.{HasWidths}

same_width : Monotone → (of : List Rule) (w v : Widths) → IsLeastOf of w → IsLeastOf of v → (e : Width) → width_under e w ≡ width_under e v
same_width m of w v p q e =
    let up : width_under e w ≤ width_under e v = width_grows m e w v (λ k. let same : w k ≡ v k = one_least of w v p q k in omega (arith, same)) in
    let down : width_under e v ≤ width_under e w = width_grows m e v w (λ k. let same : w k ≡ v k = one_least of w v p q k in omega (arith, same)) in
    omega (arith, up, down)

pub found_width : Monotone → (c : CircuitTree) (found : List ℕ) → HasWidths c found → (number : ℕ) (e : Width) (w : Widths)
    → slice_get (leaf_widths c) number ≡ Some e → AreWidths c w → assigned found number ≡ width_under e w
found_width m c found h number e w is are = h.each number e is ∙ same_width m (rules c) h.fits.widths w h.fits.are are e
