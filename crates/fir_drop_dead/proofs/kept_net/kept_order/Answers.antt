use Rattle.std.proofs.Common.{sym, ◌∙◌}
use Rattle.fir_drop_dead.proofs.KeptEntries.{entry_left, entry_more}
use Rattle.fir_drop_dead.proofs.kept_net.kept_order.Goals as goal
use Rattle.fir_drop_dead.proofs.kept_net.kept_order.Goals.{then-has+in_ok-push, else-has}

pub loop-read-preserved : goal.loop-read-preserved
loop-read-preserved c =
    let m = c.args.kept.now in
    let order = c.args.order.now in
    let i = c.loop-read.read-index in
    let r = c.read-item.result in
    elim c.if-has.branch [
      | then-has+in_ok-push w ↦
          rw (w.moved-is, w.in_ok-push.ensures.items, w.read.ensures, c.loop-read.invariant)
          (sym (entry_more m order i r c.loop-read-test.true c.read-item.is (sym c.has.ensures ∙ w.if-has.true)))
      | else-has w ↦
          rw (w.moved-is, c.loop-read.invariant) (sym (entry_left m order i r c.loop-read-test.true c.read-item.is (sym c.has.ensures ∙ w.if-has.false)))
    ]
