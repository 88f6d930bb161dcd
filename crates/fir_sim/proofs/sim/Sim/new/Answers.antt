use Rattle.std.proofs.Common.{◌≡◌, sym, subst}
use Rattle.std.specs.List.{AllByRecursion}
use Rattle.fir_net.specs.working.Settled.{shape}
use Rattle.fir_tick.specs.working.Passes.{values_of, IsNarrowOutput}
use Rattle.fir_tick.specs.working.Steps.{IsStepped}
use Rattle.fir_sim.proofs.PlanFacts.{outputs_narrow}
use Rattle.fir_sim.proofs.Starting.{outputs_are_zeros, state_is, starts}
use Rattle.fir_sim.proofs.sim.Sim.new.Goals as goal

pub output_zeros-requires : goal.output_zeros-requires
output_zeros-requires c = subst (AllByRecursion IsNarrowOutput) (sym c.as_slice-5.ensures.value) (outputs_narrow c.args.net c.requires.whole c.in_ok-plan.plan c.in_ok-plan.ensures)

pub state_of-requires-clause-fits : goal.state_of-requires-clause-fits
state_of-requires-clause-fits c = rw c.words.ensures c.requires.fits

pub invariant_of-result : goal.invariant_of-result
invariant_of-result c =
    let net = c.args.net in
    let p = c.in_ok-plan.plan in
    let steps = c.in_ok-steps.steps.items in
    let words : c.in_ok-state_of.field-0.items ≡ values_of (shape net).state c.args.init.now = rw (← c.words.ensures) c.in_ok-state_of.ensures.values in
    let stepped : IsStepped net steps = record { order = c.args.order; ordered = c.requires.ordered; are = rw (← c.as_slice-2.ensures) c.in_ok-steps.ensures } in
    starts net c.requires.whole c.args.init.now c.requires.fits
    (record { numbers = c.in_ok-zeros.field-0; outputs = c.in_ok-output_zeros.field-0; state = c.in_ok-state_of.field-0 })
    words p c.in_ok-plan.ensures c.in_ok-state_of.ensures.whole steps stepped c.in_ok-zeros.ensures (rw (← c.as_slice-5.ensures.value) c.in_ok-output_zeros.ensures)

pub returns-clause-outputs : goal.returns-clause-outputs
returns-clause-outputs c =
    outputs_are_zeros c.args.net c.requires.whole c.in_ok-plan.plan c.in_ok-plan.ensures c.in_ok-output_zeros.field-0.items
    (rw (← c.as_slice-5.ensures.value) c.in_ok-output_zeros.ensures)

pub returns-clause-state : goal.returns-clause-state
returns-clause-state c =
    let net = c.args.net in
    let words : c.in_ok-state_of.field-0.items ≡ values_of (shape net).state c.args.init.now = rw (← c.words.ensures) c.in_ok-state_of.ensures.values in
    state_is net c.requires.whole c.args.init.now c.requires.fits
    (record { numbers = c.in_ok-zeros.field-0; outputs = c.in_ok-output_zeros.field-0; state = c.in_ok-state_of.field-0 }) words
