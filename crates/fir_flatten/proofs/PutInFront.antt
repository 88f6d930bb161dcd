-- An item that is written and then changes places with one before it, or stays.
use Rattle.std.proofs.Common.{◌≡◌, ℕ, ◌+◌, ◌<◌, ◌≤◌, List, [], ◌∷◌, ◌++◌, length, get_or, set, take, drop, sym, ap, ◌∙◌, arith, ◌⊎◌, inl, inr, length-set}
use Rattle.std.specs.List.{swap}
use Rattle.std.proofs.lemmas.Bool.{cases_eq}
use Rattle.std.proofs.lemmas.List.{drop-set-lt, get_or-set_same, set-set, take-set-le, take_more_set}
use Rattle.std.proofs.lemmas.List.Edits.{swap_is}

module _ {A : Type 0} (xs : List A) (front i : ℕ) (x : A) (le : front ≤ i) (within : i < length xs) where
  abbrev other : A
  other = get_or (set xs i x) front x

  here : get_or (set xs i x) i x ≡ x
  here = get_or-set_same xs i x x within

  is : swap (set xs i x) front i ≡ set (set (set xs i x) front x) i other
  is =
      let long = length-set xs i x in
      sym (swap_is (set xs i x) front i x (omega arith) (omega arith))
      ∙ ap (λ (y : A). set (set (set xs i x) front y) i other) here

  pub behind_put : drop (i + 1) (swap (set xs i x) front i) ≡ drop (i + 1) xs
  behind_put =
      ap (drop (i + 1)) is
      ∙ drop-set-lt (i + 1) (set (set xs i x) front x) i other (omega arith)
      ∙ drop-set-lt (i + 1) (set xs i x) front x (omega arith)
      ∙ drop-set-lt (i + 1) xs i x (omega arith)

  pub put_front : take (front + 1) (swap (set xs i x) front i) ≡ take front xs ++ x ∷ []
  put_front = ap (take (front + 1)) is ∙ by (cases_eq front i)
    where
      by : (front ≡ i) ⊎ (front ≡ i → ⊥) → take (front + 1) (set (set (set xs i x) front x) i other) ≡ take front xs ++ x ∷ []
      by (inl e) = rw e (rw (here, set-set, set-set) (take_more_set xs i x within))
      by (inr apart) =
          let long = length-set xs i x in
          take-set-le (front + 1) (set (set xs i x) front x) i other (omega (arith, apart))
          ∙ take_more_set (set xs i x) front x (omega arith)
          ∙ ap (λ (front_part : List A). front_part ++ x ∷ []) (take-set-le front xs i x le)
