use Rattle.std.proofs.Common.{◌≡◌, length, sym, subst}
use Rattle.std.proofs.lemmas.Result.{IfOk-weaker}
use Rattle.fir_infer_resets.specs.working.Adding.{AddsEnd}
use Rattle.fir_infer_resets.specs.working.Holding.{HasNumber}
use Rattle.fir_infer_resets.proofs.HeldGraphs.{contacted}
use Rattle.fir_infer_resets.proofs.joined.Joined.contact.Goals as goal

pub returns : goal.returns
returns c circuit js before e is none =
    let old = c.args.self.now in
    let new = c.push.new.self in
    IfOk-weaker c.push.result (λ n. (n ≡ length old.ends.items) × AddsEnd old new c.args.end) (HasNumber before e new)
    (λ n r. subst (HasNumber before e new) (sym r.0) (contacted circuit js old before new c.args.end e is none r.1)) c.push.ensures
