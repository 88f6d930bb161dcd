use Rattle.std.proofs.Common.{List, ℕ, subst}
use Rattle.fir_base.specs.Ticks.{FitEach}
use Rattle.ver_ast.specs.Nets.{shape}
use Rattle.ver_ast.proofs.NextFits.{next_fits}
use Rattle.ver_order.proofs.Edges.{is_next}
use Rattle.ver_order.proofs.laws.next_has_shape.Goals as goal

pub returns : goal.returns
returns c v valid state tick env rest next e =
    subst (λ (s : List ℕ). FitEach (shape v).state s) (is_next v state tick env next e) (next_fits v valid env rest.fits state tick rest.begins.shaped.state_fits)
