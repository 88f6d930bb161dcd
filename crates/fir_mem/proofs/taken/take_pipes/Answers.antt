use Rattle.std.proofs.Common.{refl, arith, length, ap, ◌≡◌}
use Rattle.fir_mem.specs.working.Built.{Built, lower_first}
use Rattle.fir_mem.proofs.Steps.{turn, turn_within, turn_narrow}
use Rattle.fir_mem.proofs.taken.take_pipes.Goals as goal

pub loop-number-init : goal.loop-number-init
unfolding lower_first
loop-number-init c = refl

pub take_leaf-requires-clause-within : goal.take_leaf-requires-clause-within
take_leaf-requires-clause-within c =
    let long : c.len-number-end.result ≡ length c.args.lowered.now.leaves =
    omega (arith, c.len-number-end.ensures, c.lowered.inside.leaves.ok.0, ap (λ (b : Built). length b.leaves) c.lowered.view_is) in
    turn_within c.args.writes.now c.args.lowered.now c.loop-number.lowered c.loop-number.number c.loop-number.invariant (omega (arith, long, c.loop-number-test.true))

pub take_leaf-requires-clause-narrow : goal.take_leaf-requires-clause-narrow
take_leaf-requires-clause-narrow c = turn_narrow c.args.writes.now c.args.lowered.now c.loop-number.lowered c.loop-number.number c.loop-number.invariant c.requires

pub loop-number-preserved : goal.loop-number-preserved
loop-number-preserved c = turn c.args.writes.now c.args.lowered.now c.loop-number.lowered c.take_leaf.new.lowered c.loop-number.number c.loop-number.invariant c.in_ok-take_leaf.ensures
