use Rattle.std.proofs.Common.{arith}
use Rattle.ver_build.proofs.GuardWalk.{guards_step}
use Rattle.ver_build.proofs.write_guards.array_guards.Goals as goal

pub loop-write-preserved : goal.loop-write-preserved
loop-write-preserved c =
    guards_step c.args.net.now c.args.table.now c.args.leaves.now c.args.array.now.words c.args.from c.loop-write.next c.in_ok-guard.to c.loop-write.write-index
    c.as_slice-writes.result.now c.write-item.result c.loop-write.guards.items _ c.in_ok-guard.guard c.loop-write-test.true c.write-item.is
    (omega (arith, c.if-next-gt-MOST.false)) c.loop-write.invariant c.in_ok-guard.ensures c.in_ok-push.ensures.items
