use Rattle.std.proofs.Common.{sym, ◌∙◌, ap, subst, Ok}
use Rattle.fir_tick.specs.working.Shapes.{IsShapeOf}
use Rattle.trace_text.specs.working.Shapes.{IsShape}
use Rattle.fir_tick.proofs.WholeShapes.{made_by, made_is_shape, made_of_net}
use Rattle.fir_tick.proofs.trace_shape.shape.Goals as goal

pub unreachable-requires : goal.unreachable-requires
unreachable-requires c =
    let is = made_by c.args.net.now c.in_ok-table.table c.in_ok-inputs.inputs.items c.clock_count-clocks.result c.in_ok-state.state.items _ c.as_slice-leaves.ensures c.in_ok-inputs.ensures c.clock_count-clocks.ensures c.in_ok-state.ensures in
    let whole = made_is_shape c.args.net.now c.in_ok-table.table c.requires.whole c.in_ok-table.ensures.table c.in_ok-table.ensures.spelled in
    c.in_ok-shape.ensures.none (ap Ok c.in_default.is) (subst (λ s. IsShape s) (sym is) whole)

pub returns : goal.returns
returns c =
    let is = made_by c.args.net.now c.in_ok-table.table c.in_ok-inputs.inputs.items c.clock_count-clocks.result c.in_ok-state.state.items _ c.as_slice-leaves.ensures c.in_ok-inputs.ensures c.clock_count-clocks.ensures c.in_ok-state.ensures in
    let same = rw c.in-Some.is at c.in_ok-shape.ensures.shape in
    subst (λ s. IsShapeOf c.args.net.now s) (sym (same ∙ is)) (made_of_net c.args.net.now c.in_ok-table.table c.requires.whole c.in_ok-table.ensures.table)
