use Rattle.std.proofs.Common.{sym, ◌∙◌}
use Rattle.ver_sim.proofs.LackingItems.{side_checked}
use Rattle.ver_sim.proofs.lacking.put_side.Goals as goal

pub returns : goal.returns
returns c v k m =
    side_checked v c.args.tables.now k c.args.assign.now c.args.place c.width-width.result c.in_ok-work.work c.args.out.now.items c.push.new.self.items
    (sym (c.is_checked.ensures v k) ∙ c.if-not-is_checked.false) m c.width-width.ensures c.in_ok-work.ensures c.in_ok-push.ensures.items
