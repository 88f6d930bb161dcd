use Rattle.std.proofs.Common.{◌^◌, ◌<◌, length, arith}
use Rattle.trace_text.specs.Shapes.{state_widths}
use Rattle.trace_text.proofs.FoundPlaces.{few_widths}
use Rattle.trace_text.proofs.shape.Shape.find.Goals as goal

pub returns-clause-few : goal.returns-clause-few
returns-clause-few c =
    let state = c.self.inside.state in
    let few : length (state_widths state.items) < 2 ^ 64 = omega (arith, few_widths state.items, state.ok.0, state.ok.1, state.small, c.self.invariant.0.few) in
    rw (← c.self.view_is) few
