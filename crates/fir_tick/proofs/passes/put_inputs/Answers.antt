use Rattle.std.proofs.Common.{◌<◌, length, arith}
use Rattle.fir_tick.proofs.Passing.{inputs_more}
use Rattle.fir_tick.proofs.passes.put_inputs.Goals as goal

pub loop-j-preserved : goal.loop-j-preserved
loop-j-preserved c =
    let long = c.requires.long in
    let within : c.loop-j.j < length c.args.values.now = omega arith in
    rw c.put.ensures (inputs_more c.args.plans.now c.args.values.now c.loop-j.numbers _ c.loop-j.j _ c.loop-j-test.true within c.loop-j.invariant)
