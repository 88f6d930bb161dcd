use Rattle.fir_type_table.specs.working.Tables.{types_of}
use Rattle.fir_ground.proofs.FirstLeaves.{firsts_end}
use Rattle.fir_ground.proofs.firsts.first_leaves.Goals as goal

pub returns : goal.returns
returns c =
    firsts_end (types_of c.args.table.now) c.args.declared.now c.loop-found.found-index c.loop-found.firsts.items c.loop-found.next c.loop-found-test.false
    c.loop-found.invariant
