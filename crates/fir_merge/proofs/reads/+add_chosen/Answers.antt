use Rattle.std.proofs.lemmas.Result.{IfOk-weaker}
use Rattle.fir_merge.proofs.GrownTerms.{below_later, grows_more}
use Rattle.fir_merge.proofs.StandingReads.{chosen_whole}
use Rattle.fir_merge.proofs.reads.+add_chosen.Goals as goal

pub add_choice-requires-clause-first : goal.add_choice-requires-clause-first
add_choice-requires-clause-first t c =
    let chosen = c.in_ok-chosen-in-len1-up.ensures.grown in
    below_later c.add_chosen.new.net c.add_any.new.net c.in_ok-chosen-in-len1-up.chosen.read c.in_ok-any-in-len1-up.ensures.grown.grows chosen.below

pub add_choice-requires-clause-second : goal.add_choice-requires-clause-second
add_choice-requires-clause-second t c =
    let old = c.args.net.now in
    let middle = c.add_chosen.new.net in
    let later = c.add_any.new.net in
    let grows = grows_more old middle later c.in_ok-chosen-in-len1-up.ensures.grown.grows c.in_ok-any-in-len1-up.ensures.grown.grows in
    below_later old later c.args.value.now.read grows c.requires.value

pub returns-in_ok-any-in-len1-up-clause-grown : goal.returns-in_ok-any-in-len1-up-clause-grown
returns-in_ok-any-in-len1-up-clause-grown t c =
    let old = c.args.net.now in
    let middle = c.add_chosen.new.net in
    let later = c.add_any.new.net in
    let grows = grows_more old middle later c.in_ok-chosen-in-len1-up.ensures.grown.grows c.in_ok-any-in-len1-up.ensures.grown.grows in
    IfOk-weaker c.add_choice.result _ _
    (λ r last. record { grows = grows_more old later c.add_choice.new.net grows last.grows; below = last.below }) c.add_choice.ensures.grown

pub returns-in_ok-any-in-len1-up-clause-stands : goal.returns-in_ok-any-in-len1-up-clause-stands
returns-in_ok-any-in-len1-up-clause-stands t c =
    let chosen = c.in_ok-chosen-in-len1-up.ensures in
    let any = c.in_ok-any-in-len1-up.ensures in
    IfOk-weaker c.add_choice.result _ _
    (λ r made_so.
    chosen_whole c.args.net.now c.add_chosen.new.net c.add_any.new.net c.add_choice.new.net c.args.indices.now c.index-item.result c.args.value.now
    c.in_ok-chosen-in-len1-up.chosen c.in_ok-any-in-len1-up.any r c.in-len1-up.len_at_least c.index-item.is chosen.grown.grows chosen.stands any.grown.grows
    any.stands made_so) c.add_choice.ensures.stands
