use Rattle.std.proofs.Common.{ℕ, List, Option, map, true, false, sym, subst}
use Rattle.fir_base.specs.Ticks.{Tick, FitEach}
use Rattle.fir_net.specs.working.Allows.{Allows}
use Rattle.fir_net.specs.working.Settled.{clock_outputs, shape}
use Rattle.fir_tick.specs.working.Views.{SimView, IsTickOf, numbers}
use Rattle.fir_tick.specs.working.Passes.{input_width}
use Rattle.fir_tick.specs.working.Roots.{root_at}
use Rattle.fir_tick.specs.working.Steps.{IsStepped}
use Rattle.fir_tick.proofs.Fits.{clocks_rise, fit_count}
use Rattle.fir_sim.proofs.PlanFacts.{input_widths}
use Rattle.fir_sim.proofs.Ticking.{state_room, still_running, allows}
use Rattle.fir_sim.proofs.InTurn.{placed0, within1, held2, fits2, shown3, room3, can4, pipes4, writes4, room4, whole4, ticked}
use Rattle.fir_sim.proofs.sim.Sim.step.Goals as goal

pub put_state-requires-clause-within : goal.put_state-requires-clause-within
put_state-requires-clause-within c =
    let net = c.self.inside.net in
    let steps = c.self.inside.steps.items in
    let p = c.self.inside.plan in
    let v0 = c.self.inside.values in
    let run = c.self.invariant in
    let tick : Tick = record { inputs = c.args.inputs.now; clocks = c.args.clocks.now } in
    let is_tick : IsTickOf net tick = subst (λ (s : SimView). IsTickOf s.net tick) (sym c.self.view_is) c.requires in
    placed0 net steps p tick is_tick v0 run

pub put_state-requires-clause-long : goal.put_state-requires-clause-long
put_state-requires-clause-long c =
    let net = c.self.inside.net in
    let steps = c.self.inside.steps.items in
    let p = c.self.inside.plan in
    let v0 = c.self.inside.values in
    let run = c.self.invariant in
    state_room net steps p v0 run

pub put_inputs-requires-clause-within : goal.put_inputs-requires-clause-within
put_inputs-requires-clause-within c =
    let net = c.self.inside.net in
    let steps = c.self.inside.steps.items in
    let p = c.self.inside.plan in
    let v0 = c.self.inside.values in
    let run = c.self.invariant in
    let tick : Tick = record { inputs = c.args.inputs.now; clocks = c.args.clocks.now } in
    let is_tick : IsTickOf net tick = subst (λ (s : SimView). IsTickOf s.net tick) (sym c.self.view_is) c.requires in
    within1 net steps p tick is_tick v0 run c.put_state.new.self c.put_state.ensures.numbers c.put_state.ensures.others

pub put_inputs-requires-clause-long : goal.put_inputs-requires-clause-long
put_inputs-requires-clause-long c =
    let net = c.self.inside.net in
    let p = c.self.inside.plan in
    let run = c.self.invariant in
    let tick : Tick = record { inputs = c.args.inputs.now; clocks = c.args.clocks.now } in
    let is_tick : IsTickOf net tick = subst (λ (s : SimView). IsTickOf s.net tick) (sym c.self.view_is) c.requires in
    fit_count input_width p.inputs.items c.args.inputs.now (subst (λ ws. FitEach ws c.args.inputs.now) (sym (input_widths net run.whole p run.plan)) is_tick.inputs)

pub settle-requires-clause-whole : goal.settle-requires-clause-whole
settle-requires-clause-whole c =
    let run = c.self.invariant in
    run.whole

pub settle-requires-clause-stepped : goal.settle-requires-clause-stepped
settle-requires-clause-stepped c =
    let net = c.self.inside.net in
    let run = c.self.invariant in
    subst (IsStepped net) (sym c.as_slice.ensures.value) run.stepped

pub settle-requires-clause-held : goal.settle-requires-clause-held
settle-requires-clause-held c =
    let net = c.self.inside.net in
    let steps = c.self.inside.steps.items in
    let p = c.self.inside.plan in
    let v0 = c.self.inside.values in
    let run = c.self.invariant in
    let tick : Tick = record { inputs = c.args.inputs.now; clocks = c.args.clocks.now } in
    let is_tick : IsTickOf net tick = subst (λ (s : SimView). IsTickOf s.net tick) (sym c.self.view_is) c.requires in
    held2 net steps p tick is_tick v0 run c.put_state.new.self c.put_state.ensures.numbers c.put_state.ensures.others c.put_inputs.new.self c.put_inputs.ensures.numbers c.put_inputs.ensures.others

pub settle-requires-clause-fits : goal.settle-requires-clause-fits
settle-requires-clause-fits c =
    let net = c.self.inside.net in
    let steps = c.self.inside.steps.items in
    let p = c.self.inside.plan in
    let v0 = c.self.inside.values in
    let run = c.self.invariant in
    let tick : Tick = record { inputs = c.args.inputs.now; clocks = c.args.clocks.now } in
    let is_tick : IsTickOf net tick = subst (λ (s : SimView). IsTickOf s.net tick) (sym c.self.view_is) c.requires in
    fits2 net steps p tick is_tick v0 run c.put_state.new.self c.put_state.ensures.numbers c.put_state.ensures.others c.put_inputs.new.self c.put_inputs.ensures.numbers c.put_inputs.ensures.others

pub show_outputs-requires-clause-shown : goal.show_outputs-requires-clause-shown
show_outputs-requires-clause-shown c =
    let net = c.self.inside.net in
    let steps = c.self.inside.steps.items in
    let p = c.self.inside.plan in
    let v0 = c.self.inside.values in
    let run = c.self.invariant in
    let tick : Tick = record { inputs = c.args.inputs.now; clocks = c.args.clocks.now } in
    let is_tick : IsTickOf net tick = subst (λ (s : SimView). IsTickOf s.net tick) (sym c.self.view_is) c.requires in
    shown3 net steps p tick is_tick v0 run c.put_state.new.self c.put_state.ensures.numbers c.put_state.ensures.others c.put_inputs.new.self c.put_inputs.ensures.numbers c.put_inputs.ensures.others c.settle.new.self c.settle.ensures.settled c.settle.ensures.others

pub show_outputs-requires-clause-room : goal.show_outputs-requires-clause-room
show_outputs-requires-clause-room c =
    let net = c.self.inside.net in
    let steps = c.self.inside.steps.items in
    let p = c.self.inside.plan in
    let v0 = c.self.inside.values in
    let run = c.self.invariant in
    let tick : Tick = record { inputs = c.args.inputs.now; clocks = c.args.clocks.now } in
    let is_tick : IsTickOf net tick = subst (λ (s : SimView). IsTickOf s.net tick) (sym c.self.view_is) c.requires in
    room3 net steps p tick is_tick v0 run c.put_state.new.self c.put_state.ensures.numbers c.put_state.ensures.others c.put_inputs.new.self c.put_inputs.ensures.numbers c.put_inputs.ensures.others c.settle.new.self c.settle.ensures.settled c.settle.ensures.others

pub take_edges-requires-clause-can : goal.take_edges-requires-clause-can
take_edges-requires-clause-can c =
    let net = c.self.inside.net in
    let steps = c.self.inside.steps.items in
    let p = c.self.inside.plan in
    let v0 = c.self.inside.values in
    let run = c.self.invariant in
    let tick : Tick = record { inputs = c.args.inputs.now; clocks = c.args.clocks.now } in
    let is_tick : IsTickOf net tick = subst (λ (s : SimView). IsTickOf s.net tick) (sym c.self.view_is) c.requires in
    can4 net steps p tick is_tick v0 run c.put_state.new.self c.put_state.ensures.numbers c.put_state.ensures.others c.put_inputs.new.self c.put_inputs.ensures.numbers c.put_inputs.ensures.others c.settle.new.self c.settle.ensures.settled c.settle.ensures.others c.show_outputs.new.self c.show_outputs.ensures.others c.has_its_type.ensures c.nodes_have_their_types.ensures

pub take_edges-requires-clause-before_writes : goal.take_edges-requires-clause-before_writes
take_edges-requires-clause-before_writes c =
    let net = c.self.inside.net in
    let steps = c.self.inside.steps.items in
    let p = c.self.inside.plan in
    let v0 = c.self.inside.values in
    let run = c.self.invariant in
    let tick : Tick = record { inputs = c.args.inputs.now; clocks = c.args.clocks.now } in
    let is_tick : IsTickOf net tick = subst (λ (s : SimView). IsTickOf s.net tick) (sym c.self.view_is) c.requires in
    pipes4 net steps p tick is_tick v0 run c.put_state.new.self c.put_state.ensures.numbers c.put_state.ensures.others c.put_inputs.new.self c.put_inputs.ensures.numbers c.put_inputs.ensures.others c.settle.new.self c.settle.ensures.settled c.settle.ensures.others c.show_outputs.new.self c.show_outputs.ensures.others false p.before_writes.items run.plan.before_writes

pub take_edges-requires-clause-after_writes : goal.take_edges-requires-clause-after_writes
take_edges-requires-clause-after_writes c =
    let net = c.self.inside.net in
    let steps = c.self.inside.steps.items in
    let p = c.self.inside.plan in
    let v0 = c.self.inside.values in
    let run = c.self.invariant in
    let tick : Tick = record { inputs = c.args.inputs.now; clocks = c.args.clocks.now } in
    let is_tick : IsTickOf net tick = subst (λ (s : SimView). IsTickOf s.net tick) (sym c.self.view_is) c.requires in
    pipes4 net steps p tick is_tick v0 run c.put_state.new.self c.put_state.ensures.numbers c.put_state.ensures.others c.put_inputs.new.self c.put_inputs.ensures.numbers c.put_inputs.ensures.others c.settle.new.self c.settle.ensures.settled c.settle.ensures.others c.show_outputs.new.self c.show_outputs.ensures.others true p.after_writes.items run.plan.after_writes

pub take_edges-requires-clause-writes : goal.take_edges-requires-clause-writes
take_edges-requires-clause-writes c =
    let net = c.self.inside.net in
    let steps = c.self.inside.steps.items in
    let p = c.self.inside.plan in
    let v0 = c.self.inside.values in
    let run = c.self.invariant in
    let tick : Tick = record { inputs = c.args.inputs.now; clocks = c.args.clocks.now } in
    let is_tick : IsTickOf net tick = subst (λ (s : SimView). IsTickOf s.net tick) (sym c.self.view_is) c.requires in
    writes4 net steps p tick is_tick v0 run c.put_state.new.self c.put_state.ensures.numbers c.put_state.ensures.others c.put_inputs.new.self c.put_inputs.ensures.numbers c.put_inputs.ensures.others c.settle.new.self c.settle.ensures.settled c.settle.ensures.others c.show_outputs.new.self c.show_outputs.ensures.others c.has_its_type.ensures c.nodes_have_their_types.ensures

pub take_edges-requires-clause-rising : goal.take_edges-requires-clause-rising
take_edges-requires-clause-rising c =
    let net = c.self.inside.net in
    let tick : Tick = record { inputs = c.args.inputs.now; clocks = c.args.clocks.now } in
    let is_tick : IsTickOf net tick = subst (λ (s : SimView). IsTickOf s.net tick) (sym c.self.view_is) c.requires in
    clocks_rise 0 (shape net).clocks c.args.clocks.now is_tick.clocks

pub take_edges-requires-clause-room : goal.take_edges-requires-clause-room
take_edges-requires-clause-room c =
    let net = c.self.inside.net in
    let steps = c.self.inside.steps.items in
    let p = c.self.inside.plan in
    let v0 = c.self.inside.values in
    let run = c.self.invariant in
    let tick : Tick = record { inputs = c.args.inputs.now; clocks = c.args.clocks.now } in
    let is_tick : IsTickOf net tick = subst (λ (s : SimView). IsTickOf s.net tick) (sym c.self.view_is) c.requires in
    room4 net steps p tick is_tick v0 run c.put_state.new.self c.put_state.ensures.numbers c.put_state.ensures.others c.put_inputs.new.self c.put_inputs.ensures.numbers c.put_inputs.ensures.others c.settle.new.self c.settle.ensures.settled c.settle.ensures.others c.show_outputs.new.self c.show_outputs.ensures.others

pub take_edges-requires-clause-whole : goal.take_edges-requires-clause-whole
take_edges-requires-clause-whole c =
    let net = c.self.inside.net in
    let steps = c.self.inside.steps.items in
    let p = c.self.inside.plan in
    let v0 = c.self.inside.values in
    let run = c.self.invariant in
    let tick : Tick = record { inputs = c.args.inputs.now; clocks = c.args.clocks.now } in
    let is_tick : IsTickOf net tick = subst (λ (s : SimView). IsTickOf s.net tick) (sym c.self.view_is) c.requires in
    whole4 net steps p tick is_tick v0 run c.put_state.new.self c.put_state.ensures.numbers c.put_state.ensures.others c.put_inputs.new.self c.put_inputs.ensures.numbers c.put_inputs.ensures.others c.settle.new.self c.settle.ensures.settled c.settle.ensures.others c.show_outputs.new.self c.show_outputs.ensures.others

pub invariant_of-self : goal.invariant_of-self
invariant_of-self c =
    let net = c.self.inside.net in
    let steps = c.self.inside.steps.items in
    let p = c.self.inside.plan in
    let v0 = c.self.inside.values in
    let run = c.self.invariant in
    let tick : Tick = record { inputs = c.args.inputs.now; clocks = c.args.clocks.now } in
    let is_tick : IsTickOf net tick = subst (λ (s : SimView). IsTickOf s.net tick) (sym c.self.view_is) c.requires in
    still_running net steps p tick is_tick v0 c.take_edges.new.self c.put_inputs.new.self.numbers.items run (ticked net steps p tick is_tick v0 run c.put_state.new.self c.put_state.ensures.numbers c.put_state.ensures.others c.put_inputs.new.self c.put_inputs.ensures.numbers c.put_inputs.ensures.others c.settle.new.self c.settle.ensures.settled c.settle.ensures.others c.show_outputs.new.self c.show_outputs.ensures.others c.take_edges.new.self c.show_outputs.ensures.outputs c.show_outputs.ensures.whole c.take_edges.ensures.state c.take_edges.ensures.whole c.take_edges.ensures.others)

pub returns-clause-allows : goal.returns-clause-allows
returns-clause-allows c =
    let net = c.self.inside.net in
    let steps = c.self.inside.steps.items in
    let p = c.self.inside.plan in
    let v0 = c.self.inside.values in
    let run = c.self.invariant in
    let tick : Tick = record { inputs = c.args.inputs.now; clocks = c.args.clocks.now } in
    let is_tick : IsTickOf net tick = subst (λ (s : SimView). IsTickOf s.net tick) (sym c.self.view_is) c.requires in
    let after = c.take_edges.new.self in
    subst (λ (s : SimView). (of_outputs : List (Option ℕ)) × Allows s.net (numbers s.state) tick (numbers after.outputs.items) of_outputs (numbers after.state.items)) c.self.view_is (
      map (root_at run.plan.roots) (clock_outputs net),
      allows net steps p tick is_tick v0 after c.put_inputs.new.self.numbers.items run (ticked net steps p tick is_tick v0 run c.put_state.new.self c.put_state.ensures.numbers c.put_state.ensures.others c.put_inputs.new.self c.put_inputs.ensures.numbers c.put_inputs.ensures.others c.settle.new.self c.settle.ensures.settled c.settle.ensures.others c.show_outputs.new.self c.show_outputs.ensures.others c.take_edges.new.self c.show_outputs.ensures.outputs c.show_outputs.ensures.whole c.take_edges.ensures.state c.take_edges.ensures.whole c.take_edges.ensures.others) c.has_its_type.ensures c.nodes_have_their_types.ensures c.nodes_have_their_values.ensures,
    )
