-- Elements of a list after a push and a cut, and lists in which none stands twice.
use Rattle.std.proofs.Common.{◌≡◌, ℕ, zero, suc, ◌+◌, List, [], ◌∷◌, ◌++◌, Some, length, drop, refl, sym, ap, ◌∙◌, inl, inr, ◌⊎◌, arith, zero-add}
use Rattle.std.specs.Prelude.{slice_get}
use Rattle.std.proofs.lemmas.Option.{none-some, slice_get_within}
use Rattle.fir_base.specs.Lists.{Distinct}
use Rattle.fir_base.proofs.Elements.{get_left, get_behind, get_in, number_of}

pub get-drop : {A : Type 0} → (s : ℕ) (xs : List A) (i : ℕ) → slice_get (drop s xs) i ≡ slice_get xs (s + i)
get-drop zero xs i = rw zero-add refl
get-drop (suc s) [] i = refl
get-drop (suc s) (x ∷ xs) i =
    let e : suc s + i ≡ suc (s + i) = omega arith in
    get-drop s xs i ∙ ap (slice_get (x ∷ xs)) (sym e)

-- none stands twice: by places, and by recursion
pub distinct_from : {A : Type 0} → (xs : List A) → ((i j : ℕ) (x : A) → slice_get xs i ≡ Some x → slice_get xs j ≡ Some x → i ≡ j) → Distinct xs
distinct_from [] h = tt
distinct_from (x ∷ xs) h = ((λ m. let at = number_of xs x m in omega (arith, h 0 (suc at.0) x refl at.1)), distinct_from xs (λ i j y p q. omega (arith, h (suc i) (suc j) y p q)))

pub distinct_at : {A : Type 0} → (xs : List A) → Distinct xs → (i j : ℕ) (x : A) → slice_get xs i ≡ Some x → slice_get xs j ≡ Some x → i ≡ j
distinct_at [] d i j x p q = absurd (none-some x p)
distinct_at (y ∷ xs) d zero zero x p q = refl
distinct_at (y ∷ xs) d zero (suc j) x p q = let same : x ≡ y = cc in absurd (d.0 (get_in xs j y (q ∙ ap Some same)))
distinct_at (y ∷ xs) d (suc i) zero x p q = let same : x ≡ y = cc in absurd (d.0 (get_in xs i y (p ∙ ap Some same)))
distinct_at (y ∷ xs) d (suc i) (suc j) x p q = ap suc (distinct_at xs d.1 i j x p q)
