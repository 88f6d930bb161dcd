use Rattle.std.proofs.Common.{rules, ◌≡◌, subst}
use Rattle.fir_ast.specs.working.Views.{circuit_of}
use Rattle.fir_meaning.specs.WidthExpressions.{width_under}
use Rattle.fir_meaning.specs.working.AssignedWidths.{assigned}
use Rattle.fir_width.specs.working.Fitting.{HasWidths}
use Rattle.fir_width.proofs.FittedWidths.{found_width}
use Rattle.fir_width.proofs.fitted.Widths.of.Goals as goal

pub returns : goal.returns
returns c e w is are =
    let has = subst (λ t. HasWidths (circuit_of t) c.fitted.inside.widths.items) c.fitted.view_is c.fitted.invariant.0 in
    let at : assigned c.fitted.inside.widths.items c.args.leaf ≡ width_under e w =
    found_width c.monotone.ensures (circuit_of c.args.fitted.now) c.fitted.inside.widths.items has c.args.leaf e w is are in
    search rules
