use Rattle.std.proofs.Common.{◌≤◌, length, count_by, nat_eq, subst, ap, rules, arith}
use Rattle.std.proofs.lemmas.List.Sums.{count_by-le-length}
use Rattle.std.proofs.lemmas.List.Splits.{length-slice_split}
use Rattle.trace_text.specs.Lines.{words_of}
use Rattle.trace_text.specs.working.TickWords.{ValuesAreRead}
use Rattle.trace_text.proofs.ListPieces.{next_piece, no_piece}
use Rattle.trace_text.proofs.tick_words.ReadValues.take_all.Goals as goal

pub take-requires-clause-few : goal.take-requires-clause-few
take-requires-clause-few c =
    let split = c.split-word-items.ensures in
    let ahead = next_piece _ 32 c.args.text.now c.into_iter-word-iterator.ensures.into_iter_gives split.rest split.done split.closure (λ x b q k. search rules)
    c.loop-word.yielded _ c.loop-word.yielded_by _ _ c.in-Some.word c.in-Some.is c.next.ensures.steps in
    let left = ap length ahead in
    let most : count_by (λ b. nat_eq b 32) c.args.text.now ≤ length c.args.text.now = count_by-le-length (λ b. nat_eq b 32) c.args.text.now in
    omega (arith, length-slice_split (λ b. nat_eq b 32) c.args.text.now, c.loop-word.invariant.read.count)

pub loop-word-preserved : goal.loop-word-preserved
loop-word-preserved c =
    let split = c.split-word-items.ensures in
    let ahead = next_piece _ 32 c.args.text.now c.into_iter-word-iterator.ensures.into_iter_gives split.rest split.done split.closure (λ x b q k. search rules)
    c.loop-word.yielded _ c.loop-word.yielded_by _ _ c.in-Some.word c.in-Some.is c.next.ensures.steps in
    let words = words_of c.args.text.now in
    record { read = c.take.ensures.read words _ (subst (λ left. ValuesAreRead c.args.widths.now words left c.loop-word.self c.loop-word.inputs) ahead c.loop-word.invariant.read) }

pub returns-clause-read : goal.returns-clause-read
returns-clause-read c =
    let split = c.split-word-items.ensures in
    let none = no_piece _ 32 c.args.text.now c.into_iter-word-iterator.ensures.into_iter_gives split.rest split.done split.closure (λ x b q k. search rules)
    c.loop-word.yielded _ c.loop-word.yielded_by _ _ c.in-None.is c.next.ensures.steps in
    subst (λ left. ValuesAreRead c.args.widths.now (words_of c.args.text.now) left c.loop-word.self c.loop-word.inputs) none c.loop-word.invariant.read
