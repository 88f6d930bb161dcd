use Rattle.std.proofs.Common.{refl, ap, ◌∙◌}
use Rattle.fir_ast.specs.working.Views.{expr_of}
use Rattle.fir_types.proofs.PartViews.{reference_view}
use Rattle.fir_infer_resets.proofs.NotesPassed.{value_no_reference}
use Rattle.fir_infer_resets.proofs.meets.Walk.source.Goals as goal

pub returns-in-Ref : goal.returns-in-Ref
returns-in-Ref c =
    let seen = ap expr_of c.in-Ref.is ∙ reference_view c.in-Ref.reference in
    rw seen
    (λ ts scope rest ahead.
    let range = c.reference.ensures ts scope rest ahead in
    record { is = (refl, range.is); passes = range.passes })

pub returns-in-Literal : goal.returns-in-Literal
returns-in-Literal c =
    let value = value_no_reference c.args.expr.now c.in-Literal.is in
    λ ts scope rest ahead.
    let own = c.pass_expression.ensures ts scope rest ahead in
    record { is = (value, c.place_of.ensures, own.is value); passes = own.passes }
