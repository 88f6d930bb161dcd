use Rattle.std.proofs.Common.{◌<◌, length, sym}
use Rattle.fir_least_widths.proofs.WaitingMarks.{push_keeps, not_waits}
use Rattle.fir_least_widths.proofs.waiting.Waiting.add.Goals as goal

pub invariant_of-self-then-not-index : goal.invariant_of-self-then-not-index
invariant_of-self-then-not-index c =
    let within : c.args.place < length c.self.inside.waits.items = rw (sym c.self.view_is) at c.requires in
    rw c.in_ok-push.ensures.items
    (push_keeps c.self.inside.waits.items c.self.inside.stack.items c.args.place within
    (not_waits c.self.inside.waits.items c.args.place c.index.result.now within c.index.ensures c.if-not-index.true) c.self.invariant)
