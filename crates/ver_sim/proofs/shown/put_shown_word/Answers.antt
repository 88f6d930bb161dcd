use Rattle.std.proofs.Common.{sym, ◌∙◌}
use Rattle.ver_sim.proofs.PlannedNets.{shown_put}
use Rattle.ver_sim.proofs.shown.put_shown_word.Goals as goal

pub returns-in_ok-push : goal.returns-in_ok-push
returns-in_ok-push c v k m =
    shown_put v c.args.tables.now k c.args.item.now c.in-Reg.register c.place-net.result c.span-word.result c.args.out.now.items c.push.new.self.items c.in-Reg.is
    (sym (c.is_reset.ensures v k) ∙ c.if-not-is_reset.true) m c.place-net.ensures c.span-word.ensures c.in_ok-push.ensures.items
