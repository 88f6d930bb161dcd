use Rattle.std.proofs.Common.{◌-◌, length, take, drop}
use Rattle.std.proofs.lemmas.Result.{IfOk-weaker}
use Rattle.fir_merge.proofs.StandingElements.{AddsAll, all_whole}
use Rattle.fir_merge.proofs.elements.+add_elements.Goals as goal

pub returns-in_ok-found-in-len1-up : goal.returns-in_ok-found-in-len1-up
returns-in_ok-found-in-len1-up t c =
    let old = c.args.net.now in
    let middle = c.add_elements.new.net in
    let all = c.args.indices.now in
    let found = c.in_ok-found-in-len1-up.found.items in
    let given = c.in_ok-found-in-len1-up.ensures in
    let before : AddsAll old middle (take (length all - 1) (drop 1 all)) found = record { grows = given.0; below = given.1; stand = given.2 } in
    IfOk-weaker c.add_further.result _ _
    (λ es last.
    let r = all_whole old middle c.add_further.new.net all c.index-item.result found c.deref.result.now es.items c.in-len1-up.len_at_least c.index-item.is before
    c.deref.ensures.value last in
    (r.grows, r.below, r.stand)) c.add_further.ensures
