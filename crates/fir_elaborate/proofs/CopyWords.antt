-- The words among the leaves of the code, one leaf after another, and its arrays that have bits.
use Rattle.std.proofs.Common.{◌≡◌, ℕ, ◌+◌, ◌-◌, ◌≤◌, List, [], ◌∷◌, ◌++◌, Bool, true, false, cond, filter, map, slice_get, Some, sym, ap, ◌∙◌, append_assoc, append-nil, arith}
use Rattle.std.specs.List.{range_with_len}
use Rattle.std.proofs.lemmas.List.{map-append}
use Rattle.fir_leaf_circuit.specs.declared.array.LeafArray.{LeafArray}
use Rattle.fir_leaf_circuit.specs.declared.leaf.Leaf.{Leaf}
use Rattle.fir_meaning.specs.working.Numberings.{number}
use Rattle.fir_elaborate.specs.declared.numbers.Numbers.{Numbers}
use Rattle.fir_elaborate.specs.working.Walks.{array_numbers, bits_there, chosen, is_word, numbering_of, word_numbers, word_there}
use Rattle.fir_elaborate.proofs.ChosenRanges.{chosen_joined}

module _ (f : ℕ → ℕ) (is_so : ℕ → Bool) (from x : ℕ) (le : from ≤ x) where
  one_more : (b : Bool) → is_so x ≡ b → chosen f is_so from (x + 1) ≡ chosen f is_so from x ++ map f (cond b (x ∷ []) [])
  one_more b is =
      let long : x + 1 - from ≡ (x - from) + 1 = omega (arith, le) in
      ap (λ n. map f (filter is_so (range_with_len from n))) long
      ∙ ap (map f) (chosen_joined is_so from (x - from) 1 x (omega (arith, le)))
      ∙ map-append f (filter is_so (range_with_len from (x - from))) (filter is_so (range_with_len x 1))
      ∙ ap (λ t. chosen f is_so from x ++ map f (cond t (x ∷ []) [])) is

  found : (y : ℕ) (before between after : List ℕ) → is_so x ≡ true → y ≡ f x → between ≡ before ++ chosen f is_so from x
      → after ≡ between ++ y ∷ [] → after ≡ before ++ chosen f is_so from (x + 1)
  found y before between after is moved so grown =
      grown ∙ ap (λ xs. xs ++ y ∷ []) so ∙ append_assoc before (chosen f is_so from x) (y ∷ [])
      ∙ ap (λ z. before ++ (chosen f is_so from x ++ z ∷ [])) moved
      ∙ ap (λ xs. before ++ xs) (sym (one_more true is))

  none_found : (before between : List ℕ) → is_so x ≡ false → between ≡ before ++ chosen f is_so from x
      → between ≡ before ++ chosen f is_so from (x + 1)
  none_found before between is so =
      so ∙ ap (λ xs. before ++ xs) (sym (one_more false is ∙ append-nil (chosen f is_so from x)))

module _ (at : Numbers) (leaves : List Leaf) where
  pub word_found : (from x y : ℕ) (l : Leaf) (before between after : List ℕ) → from ≤ x → slice_get leaves x ≡ Some l → true ≡ is_word l
      → y ≡ number (numbering_of at) x → between ≡ before ++ word_numbers at leaves from x → after ≡ between ++ y ∷ []
      → after ≡ before ++ word_numbers at leaves from (x + 1)
  word_found from x y l before between after le is word moved so grown =
      found (number (numbering_of at)) (λ z. word_there (slice_get leaves z)) from x le y before between after (ap word_there is ∙ sym word) moved so grown

  pub no_word_found : (from x : ℕ) (l : Leaf) (before between : List ℕ) → from ≤ x → slice_get leaves x ≡ Some l → false ≡ is_word l
      → between ≡ before ++ word_numbers at leaves from x → between ≡ before ++ word_numbers at leaves from (x + 1)
  no_word_found from x l before between le is word so =
      none_found (number (numbering_of at)) (λ z. word_there (slice_get leaves z)) from x le before between (ap word_there is ∙ sym word) so

module _ (at : Numbers) (arrays : List LeafArray) where
  pub array_found : (from x y : ℕ) (a : LeafArray) (before between after : List ℕ) → from ≤ x → slice_get arrays x ≡ Some a
      → true ≡ bits_there (Some a) → y ≡ at.array + x → between ≡ before ++ array_numbers at arrays from x → after ≡ between ++ y ∷ []
      → after ≡ before ++ array_numbers at arrays from (x + 1)
  array_found from x y a before between after le is bits moved so grown =
      found (λ z. at.array + z) (λ z. bits_there (slice_get arrays z)) from x le y before between after (ap bits_there is ∙ sym bits) moved so grown

  pub no_array_found : (from x : ℕ) (a : LeafArray) (before between : List ℕ) → from ≤ x → slice_get arrays x ≡ Some a
      → false ≡ bits_there (Some a) → between ≡ before ++ array_numbers at arrays from x → between ≡ before ++ array_numbers at arrays from (x + 1)
  no_array_found from x a before between le is bits so =
      none_found (λ z. at.array + z) (λ z. bits_there (slice_get arrays z)) from x le before between (ap bits_there is ∙ sym bits) so
