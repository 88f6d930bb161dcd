use Rattle.std.proofs.Common.{ap, ◌∙◌}
use Rattle.fir_ast.specs.working.Views.{expr_of, sink_of}
use Rattle.fir_check.proofs.FlowFaults.{told_on_left, told_on_right}
use Rattle.fir_types.proofs.PartViews.{reference_view}
use Rattle.fir_check.proofs.drives.drives_a_source.Goals as goal

pub returns-then-not-leaf : goal.returns-then-not-leaf
returns-then-not-leaf c =
    λ spot same.
    told_on_left c.args.place (sink_of c.args.sink.now) (expr_of c.args.source.now) c.in-Some.leaf spot c.wrong_flow.result (rw c.in-Some.is at same)
    c.if-not-leaf.true (rw c.deref.ensures.value at c.wrong_flow.ensures)

pub returns-in-Ref : goal.returns-in-Ref
returns-in-Ref c =
    λ spot same. rw (ap expr_of c.in-Ref.is ∙ reference_view c.in-Ref.reference)
    (told_on_right c.args.place (sink_of c.args.sink.now) (sink_of c.in-Ref.reference) c.in-Some.leaf spot c.wrong_flow-in-Ref.result (rw c.in-Some.is at same)
    c.if-not-leaf.false (rw c.deref-in-Ref.ensures.value at c.wrong_flow-in-Ref.ensures))
