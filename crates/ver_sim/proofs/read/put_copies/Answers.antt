use Rattle.ver_sim.proofs.ReadForms.{copies_next, copies_none}
use Rattle.ver_sim.proofs.read.put_copies.Goals as goal

pub loop-preserved : goal.loop-preserved
loop-preserved c = copies_next _ _ _ c.args.part.now c.args.count c.loop.counter c.loop-test.true c.loop.invariant c.in_ok-put_all.ensures

pub returns : goal.returns
returns c = copies_none _ _ c.args.part.now c.args.count c.loop.counter c.loop-test.false c.loop.invariant
