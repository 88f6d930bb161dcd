use Rattle.std.proofs.Common.{length}
use Rattle.std.proofs.lemmas.List.{length-map}
use Rattle.fir_tick.proofs.Settling.{walk_first, walk_within, walk_runs, walk_on, walk_last}
use Rattle.fir_tick.proofs.settle.settle.Goals as goal

pub loop-step-init : goal.loop-step-init
loop-step-init c = walk_first c.has_its_type.ensures c.nodes_have_their_types.ensures c.args.net.now c.requires.whole _ c.requires.fits c.args.numbers.now c.requires.held c.args.steps.now c.requires.stepped

pub take-requires-clause-within : goal.take-requires-clause-within
take-requires-clause-within c =
    walk_within c.has_its_type.ensures c.nodes_have_their_types.ensures c.args.net.now c.requires.whole _ c.requires.fits c.args.numbers.now c.loop-step.numbers c.args.steps.now c.loop-step.step-index _ c.loop-step-test.true c.loop-step.invariant

pub take-requires-clause-can : goal.take-requires-clause-can
take-requires-clause-can c =
    walk_runs c.has_its_type.ensures c.nodes_have_their_types.ensures c.args.net.now c.requires.whole _ c.requires.fits c.args.numbers.now c.loop-step.numbers c.args.steps.now c.loop-step.step-index _ c.loop-step-test.true c.loop-step.invariant
    (length c.args.state.now) (length-map c.args.state.now (λ v. v.number))

pub loop-step-preserved : goal.loop-step-preserved
loop-step-preserved c =
    rw c.take.ensures
    (walk_on c.has_its_type.ensures c.nodes_have_their_types.ensures c.args.net.now c.requires.whole _ c.requires.fits c.args.numbers.now c.loop-step.numbers c.args.steps.now c.loop-step.step-index _ c.loop-step-test.true c.loop-step.invariant)

pub returns : goal.returns
returns c = walk_last c.has_its_type.ensures c.nodes_have_their_types.ensures c.args.net.now c.requires.whole _ c.requires.fits c.args.numbers.now c.loop-step.numbers c.args.steps.now c.loop-step.step-index c.loop-step-test.false c.loop-step.invariant
