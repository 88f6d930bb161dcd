use Rattle.std.proofs.Common.{◌≡◌, ◌≤◌, ◌∷◌, length, nat_eq, count_by, ap, rules, arith}
use Rattle.std.proofs.lemmas.List.Sums.{count_by-le-length}
use Rattle.std.proofs.lemmas.List.Splits.{length-slice_split}
use Rattle.trace_text.specs.Lines.{words_of}
use Rattle.trace_text.proofs.CountedWords.{miscounted}
use Rattle.trace_text.proofs.init_words.init_words.Goals as goal

pub overflow_add-result : goal.overflow_add-result
overflow_add-result c =
    let line = c.args.line.now in
    let a = c.first_word.result.0.now in
    let b = c.first_word-2.result.0.now in
    let d = c.first_word-3.result.0.now in
    let e = c.first_word-in_default-Some-first_word-2.result.0.now in
    let rest = c.in_default-Some-first_word-3.rest.now in
    let words : words_of line ≡ a ∷ b ∷ d ∷ e ∷ words_of rest = search rules in
    let most : count_by (λ b. nat_eq b 32) line ≤ length line = count_by-le-length (λ b. nat_eq b 32) line in
    omega (arith, ap length words, length-slice_split (λ b. nat_eq b 32) line)

pub returns-in_default-Some-first_word-3 : goal.returns-in_default-Some-first_word-3
returns-in_default-Some-first_word-3 c =
    let a = c.first_word.result.0.now in
    let b = c.first_word-2.result.0.now in
    let d = c.first_word-3.result.0.now in
    let e = c.first_word-in_default-Some-first_word-2.result.0.now in
    let rest = c.in_default-Some-first_word-3.rest.now in
    let words : words_of c.args.line.now ≡ a ∷ b ∷ d ∷ e ∷ words_of rest = search rules in
    miscounted (words_of c.args.line.now) a b d e rest c.word_count.result words c.word_count.ensures
