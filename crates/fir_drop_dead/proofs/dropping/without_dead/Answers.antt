use Rattle.std.proofs.Common.{◌≡◌, ◌∙◌, ap, sym, subst}
use Rattle.fir_drop_dead.specs.working.Moved.{kept_order}
use Rattle.fir_drop_dead.specs.working.Needed.{AreNeeded}
use Rattle.fir_drop_dead.specs.working.Numbers.{number}
use Rattle.fir_drop_dead.proofs.KeptLive.{kept_live, kept_state}
use Rattle.fir_drop_dead.proofs.KeptOrder.{kept_is_order}
use Rattle.fir_drop_dead.proofs.KeptRewrites.{kept_rewrites}
use Rattle.fir_drop_dead.proofs.dropping.without_dead.Goals as goal

pub returns-clause-rewritten : goal.returns-clause-rewritten
returns-clause-rewritten c =
    let net = c.args.net in
    let m = c.in_ok-kept.kept in
    let are : AreNeeded net m = subst (AreNeeded net) (sym c.in_ok-kept.ensures) c.in_ok-marks.ensures in
    rw c.in_ok-net.ensures (record { number = number m.leaves; rewrites = kept_rewrites c.nodes_have_their_values.ensures net c.requires.whole m are })

pub returns-clause-ordered : goal.returns-clause-ordered
returns-clause-ordered c =
    let net = c.args.net in
    let order = c.args.order in
    let m = c.in_ok-kept.kept in
    let are : AreNeeded net m = subst (AreNeeded net) (sym c.in_ok-kept.ensures) c.in_ok-marks.ensures in
    let new : c.from_vec.result ≡ kept_order m order = c.from_vec.ensures ∙ c.in_ok-order.ensures ∙ ap (kept_order m) c.as_slice-2.ensures in
    rw (c.in_ok-net.ensures, new) (kept_is_order net m are order c.requires.ordered)

pub returns-clause-live : goal.returns-clause-live
returns-clause-live c =
    let net = c.args.net in
    let m = c.in_ok-kept.kept in
    let are : AreNeeded net m = subst (AreNeeded net) (sym c.in_ok-kept.ensures) c.in_ok-marks.ensures in
    rw c.in_ok-net.ensures (kept_live net m are)

pub returns-clause-kept : goal.returns-clause-kept
returns-clause-kept c =
    let net = c.args.net in
    let m = c.in_ok-kept.kept in
    let are : AreNeeded net m = subst (AreNeeded net) (sym c.in_ok-kept.ensures) c.in_ok-marks.ensures in
    rw c.in_ok-net.ensures (kept_state net m are)
