-- The first word of a text ends at its first space.
use Rattle.std.proofs.Common.{◌≡◌, ℕ, ◌+◌, ◌≤◌, List, [], ◌∷◌, length, take, drop, Bool, nat_eq, nat_lt, Some, None, inl, inr, ap, ◌∙◌, arith}
use Rattle.std.specs.List.{position, position_or_len}
use Rattle.std.proofs.lemmas.Bool.{ltb-true, ltb-false}
use Rattle.std.proofs.lemmas.List.Sums.{fails_before_first}
use Rattle.std.proofs.lemmas.List.Splits.{slice_split_first, slice_split_none, length-slice_split}
use Rattle.trace_text.specs.Lines.{words_of}
use Rattle.fir_base.proofs.Tests.{chosen}

abbrev pub is_space : ℕ → Bool
is_space b = nat_eq b 32

module _ (text : List ℕ) where
  abbrev end : ℕ
  end = position_or_len is_space text

  pub first_of_more : (i : ℕ) → position is_space text ≡ Some i → words_of text ≡ take i text ∷ words_of (drop (i + 1) text)
  first_of_more i h =
      elim (chosen (nat_lt end (length text)) (Some end) None (Some i) h) [
        | inl a ↦
            let e : end ≡ i = let k = a.1 in cc in
            let within = ltb-true end (length text) a.0 in
            slice_split_first is_space text 0 within ∙ ap (λ k. take k text ∷ words_of (drop (k + 1) text)) e
        | inr a ↦ let e : None ≡ Some i = a.1 in absurd (cc)
      ]

  pub only_word : position is_space text ≡ None → words_of text ≡ text ∷ []
  only_word h =
      elim (chosen (nat_lt end (length text)) (Some end) None None h) [
        | inl a ↦ let e : Some end ≡ None = a.1 in absurd (cc)
        | inr a ↦ let all = ltb-false end (length text) a.0 in slice_split_none is_space text (λ k d l. fails_before_first is_space text k d (omega arith))
      ]

  pub some_word : 1 ≤ length (words_of text)
  some_word = omega (arith, length-slice_split is_space text)
