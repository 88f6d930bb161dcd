-- An init line with too many words.
use Rattle.std.proofs.Common.{◌≡◌, ℕ, ◌+◌, ◌<◌, List, [], ◌∷◌, length, nat_lt, nat_le, false, ap, arith}
use Rattle.std.proofs.lemmas.Bool.{le-ltb, lt-leb}
use Rattle.trace_text.specs.declared.fault.Cause.TheVariants.{Count}
use Rattle.trace_text.specs.Lines.{words_of}
use Rattle.trace_text.specs.LineFaults.{init_count}
use Rattle.trace_text.proofs.FirstWords.{some_word}

many_words : (n : ℕ) → 4 < n → init_count n ≡ Count n 4 ∷ []
many_words n h =
    let few : nat_lt n 3 ≡ false = le-ltb n 3 (omega arith) in
    let most : nat_le n 4 ≡ false = lt-leb n 4 h in
    rw (few, most)

-- words behind the fourth
pub miscounted : (words : List (List ℕ)) (a b c d rest : List ℕ) (n : ℕ) → words ≡ a ∷ b ∷ c ∷ d ∷ words_of rest → n ≡ length (words_of rest)
    → init_count (length words) ≡ Count (4 + n) 4 ∷ []
miscounted words a b c d rest n e count =
    let all : length words ≡ 4 + n = omega (arith, ap length e) in
    rw all (many_words (4 + n) (omega (arith, some_word rest)))
