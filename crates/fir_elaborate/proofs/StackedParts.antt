-- What is to come is put onto the rest from its end on, so that its first stands last.
use Rattle.std.proofs.Common.{◌≡◌, ℕ, ◌+◌, ◌<◌, List, [], ◌∷◌, ◌++◌, drop, get_or, length, reverse, sym, ap, ap₂, ◌∙◌, append_assoc}
use Rattle.std.proofs.lemmas.List.{drop_more, reverse-append}
use Rattle.fir_leaf.specs.declared.statement.LeafInstance.{LeafInstance}
use Rattle.fir_elaborate.specs.declared.numbers.Numbers.{Numbers}
use Rattle.fir_elaborate.specs.declared.numbers.Stretch.{Stretch}
use Rattle.fir_elaborate.specs.declared.walk.Pending.{Pending}
use Rattle.fir_elaborate.specs.declared.walk.Pending.TheVariants.{Words}
use Rattle.fir_elaborate.specs.working.Walks.{first_from, instance_parts, module_part, next_array, next_first}

pub stacked : {A : Type 0} (p : A) (rest before between after : List A) → between ≡ before ++ reverse rest → after ≡ between ++ p ∷ []
    → after ≡ before ++ reverse (p ∷ rest)
stacked p rest before between after so grown =
    grown ∙ ap (λ xs. xs ++ p ∷ []) so ∙ append_assoc before (reverse rest) (p ∷ [])
    ∙ ap (λ xs. before ++ xs) (sym (reverse-append (p ∷ []) rest))

module _ (at : Numbers) (leaves : ℕ) (ds : List ℕ) (names : List (List ℕ)) (prefix : List ℕ) (is : List LeafInstance) (k n : ℕ) (d : LeafInstance)
    (e : k + 1 ≡ n)
    (lt : k < length is) where
  abbrev here : LeafInstance
  here = get_or is k d

  whole : drop k is ≡ here ∷ drop n is
  whole = drop_more is k d lt ∙ ap (λ z. here ∷ drop z is) e

  pub upto_more : here.first ≡ next_first leaves (drop k is)
  upto_more = ap (next_first leaves) (sym whole)

  pub arrays_more : (upto from : ℕ) → upto ≡ next_array ds (drop n is) → from ≡ first_from ds upto here.declaration → from ≡ next_array ds (drop k is)
  arrays_more upto from to is_first =
      is_first ∙ ap (λ z. first_from ds z here.declaration) to ∙ ap (next_array ds) (sym whole)

  abbrev some_here : Stretch
  some_here = record {
    from = here.first;
    upto = next_first leaves (drop n is);
    arrays_from = first_from ds (next_array ds (drop n is)) here.declaration;
    arrays_upto = next_array ds (drop n is);
  }

  pub stretch_more : (upto from arrays_upto : ℕ) → upto ≡ next_first leaves (drop n is) → from ≡ first_from ds arrays_upto here.declaration
      → arrays_upto ≡ next_array ds (drop n is)
      → record { from = here.first; upto = upto; arrays_from = from; arrays_upto = arrays_upto } ≡ some_here
  stretch_more upto from arrays_upto to is_first arrays_to =
      let first = is_first ∙ ap (λ z. first_from ds z here.declaration) arrays_to in
      ap (λ z. record { from = here.first; upto = z; arrays_from = from; arrays_upto = arrays_upto }) to
      ∙ ap₂ (λ z y. record { from = here.first; upto = next_first leaves (drop n is); arrays_from = z; arrays_upto = y }) first arrays_to

  pub parts_more : (some : Stretch) (p : Pending) (before between next after : List Pending)
      → some ≡ some_here
      → between ≡ before ++ reverse (instance_parts at leaves ds names prefix (drop n is)) → next ≡ between ++ Words at some ∷ []
      → p ≡ module_part at names prefix here
      → after ≡ next ++ p ∷ []
      → after ≡ before ++ reverse (instance_parts at leaves ds names prefix (drop k is))
  parts_more some p before between next after to so words is_part grown =
      let rest = instance_parts at leaves ds names prefix (drop n is) in
      let first = Words at some_here in
      let one = stacked first rest before between next so (words ∙ ap (λ z. between ++ Words at z ∷ []) to) in
      stacked (module_part at names prefix here) (first ∷ rest) before next after one (grown ∙ ap (λ z. next ++ z ∷ []) is_part)
      ∙ ap (λ z. before ++ reverse (instance_parts at leaves ds names prefix z)) (sym whole)
