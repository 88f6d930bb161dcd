use Rattle.std.proofs.Common.{◌≡◌, ◌+◌, length, nat_eq, count_by, arith, rules}
use Rattle.std.proofs.lemmas.List.Splits.{length-slice_split}
use Rattle.trace_text.specs.Lines.{words_of}
use Rattle.trace_text.proofs.words.word_count.Goals as goal

pub returns : goal.returns
returns c =
    let words : length (words_of c.args.text.now) ≡ count_by (λ b. nat_eq b 32) c.args.text.now + 1 = length-slice_split (λ b. nat_eq b 32) c.args.text.now in
    let spaces : c.count.result ≡ count_by (λ b. nat_eq b 32) c.args.text.now = search rules in
    omega arith
