-- No place passes a test where no element does.
use Rattle.std.proofs.Common.{◌≡◌, ℕ, ◌<◌, Bool, true, false, ltb, List, [], ◌∷◌, length, Some, None, position, refl, inl, inr, ◌⊎◌, arith}
use Rattle.std.specs.List.{AllByRecursion, position_or_len}
use Rattle.std.proofs.lemmas.Bool.{cases_Bool, ltb-false, le-ltb}
use Rattle.std.proofs.lemmas.List.Elements.{All-from_get_or, recursion_from_All}
use Rattle.std.proofs.lemmas.List.Sums.{fails_before_first}

pub none_passes : (p : ℕ → Bool) (xs : List ℕ) → position p xs ≡ None → AllByRecursion (λ x. p x ≡ false) xs
none_passes p xs e =
    recursion_from_All (λ x. p x ≡ false) xs
    (All-from_get_or (λ x. p x ≡ false) xs 0 (λ i lt. fails_before_first p xs i 0 (within i lt (cases_Bool (ltb (position_or_len p xs) (length xs))))))
  where
    within : (i : ℕ) → i < length xs → (ltb (position_or_len p xs) (length xs) ≡ true) ⊎ (ltb (position_or_len p xs) (length xs) ≡ false)
        → i < position_or_len p xs
    within i lt (inl t) = let some : Some (position_or_len p xs) ≡ None = rw t at e in absurd (cc)
    within i lt (inr f) = let le = ltb-false (position_or_len p xs) (length xs) f in omega arith

whole : (p : ℕ → Bool) (xs : List ℕ) → AllByRecursion (λ x. p x ≡ false) xs → position_or_len p xs ≡ length xs
whole p [] all = refl
whole p (x ∷ xs) all = let rest = whole p xs all.1 in rw all.0 (omega arith)

pub none_found : (p : ℕ → Bool) (xs : List ℕ) → AllByRecursion (λ x. p x ≡ false) xs → position p xs ≡ None
none_found p xs all = let long = whole p xs all in rw (le-ltb (position_or_len p xs) (length xs) (omega arith)) refl
