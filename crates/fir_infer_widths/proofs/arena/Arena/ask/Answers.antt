use Rattle.std.proofs.Common.{refl, sym, ◌∙◌}
use Rattle.fir_infer_widths.proofs.RulesAsked.{keeps_as_it_is, keeps_asked}
use Rattle.fir_infer_widths.proofs.arena.Arena.ask.Goals as goal

pub returns-in_ok-push : goal.returns-in_ok-push
returns-in_ok-push c = λ meant rules v w k h gives.
    keeps_asked meant rules c.args.self.now (record { written = c.args.self.now.written; bounds = c.push.new.self }) c.args.driven c.args.driver v w k h gives
    (sym c.is_written.ensures ∙ c.if-not-is_written.true) refl c.in_ok-push.ensures.items

pub returns-else-not-is_written : goal.returns-else-not-is_written
returns-else-not-is_written c = λ meant rules v w k h gives.
    keeps_as_it_is meant rules c.args.self.now c.args.driven c.args.driver v w k h (sym c.is_written.ensures ∙ c.if-not-is_written.false)
