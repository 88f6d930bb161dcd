use Rattle.std.proofs.Common.{sym, ◌∙◌}
use Rattle.fir_mem.specs.working.ClockedWrites.{none}
use Rattle.fir_mem.proofs.Clocked.{rooted_more, bare_more}
use Rattle.fir_mem.proofs.clocked_writes.clocked_among.Goals as goal
use Rattle.fir_mem.proofs.clocked_writes.clocked_among.Goals.{then-is_some+in_ok-push, else-is_some}

pub loop-write-init : goal.loop-write-init
loop-write-init c = rw c.new-clocked.ensures.items none

pub loop-write-preserved : goal.loop-write-preserved
loop-write-preserved c =
    elim c.if-is_some.branch [
      | then-is_some+in_ok-push w ↦ rw (w.clocked-is, w.in_ok-push.ensures.items)
          (rooted_more c.args.net.now c.args.writes.now c.loop-write.clocked.items c.loop-write.write-index c.write-item.result c.clock_root.result c.loop-write-test.true
          c.write-item.is c.clock_root.ensures.root (sym c.is_some.ensures ∙ w.if-is_some.true) c.loop-write.invariant)
      | else-is_some w ↦ rw w.clocked-is
          (bare_more c.args.net.now c.args.writes.now c.loop-write.clocked.items c.loop-write.write-index c.write-item.result c.clock_root.result c.loop-write-test.true
          c.write-item.is c.clock_root.ensures.none (sym c.is_some.ensures ∙ w.if-is_some.false) c.loop-write.invariant)
    ]
