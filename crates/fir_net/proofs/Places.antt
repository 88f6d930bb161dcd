-- What functions give at the places of a list.
use Rattle.std.proofs.Common.{◌≡◌, ◌≢◌, ℕ, zero, suc, ◌^◌, ◌<◌, List, [], ◌∷◌, map, slice_index, true, false, eqb, cond, refl, sym, ap, subst, ⊎_elim}
use Rattle.std.specs.Prelude.{slice_get, Some}
use Rattle.std.proofs.lemmas.Bool.{eq-eqb}
use Rattle.std.proofs.lemmas.Bool.Decides.{eqb_tells}
use Rattle.std.proofs.lemmas.Nat.{pow_pos}
use Rattle.fir_base.specs.Lists.{In, Distinct}
use Rattle.fir_base.specs.Ticks.{FitEach}
use Rattle.fir_base.proofs.Elements.{get_in}

-- functions that agree at each place give one list
pub map_at : {A B : Type 0} → (f g : A → B) (xs : List A) → ((j : ℕ) (x : A) → slice_get xs j ≡ Some x → f x ≡ g x) → map f xs ≡ map g xs
map_at f g [] h = refl
map_at f g (x ∷ xs) h = rw (h 0 x refl, map_at f g xs (λ j y e. h (suc j) y e)) refl

-- what a list of values has at the place of its argument
pub value_at_place : (f : ℕ → ℕ) (ks vs : List ℕ) → map f ks ≡ vs → (n k : ℕ) → slice_get ks n ≡ Some k → f k ≡ slice_index vs n
value_at_place f [] vs h n k e = cc
value_at_place f (j ∷ ks) [] h n k e = cc
value_at_place f (j ∷ ks) (v ∷ vs) h zero k e = cc
value_at_place f (j ∷ ks) (v ∷ vs) h (suc n) k e = let rest : map f ks ≡ vs = cc in value_at_place f ks vs rest n k e

-- a function that gives the values at their places
pub values_at_places : (w f : ℕ → ℕ) (ks vs : List ℕ) → FitEach (map w ks) vs → ((n k : ℕ) → slice_get ks n ≡ Some k → f k ≡ slice_index vs n) → map f ks ≡ vs
values_at_places w f [] [] fit h = refl
values_at_places w f [] (v ∷ vs) fit h = absurd fit
values_at_places w f (j ∷ ks) [] fit h = absurd fit
values_at_places w f (j ∷ ks) (v ∷ vs) fit h = rw (h 0 j refl, values_at_places w f ks vs fit.1 (λ n k e. h (suc n) k e)) refl

-- the first place of a number
abbrev pub place_of : ℕ → List ℕ → ℕ
place_of k [] = 0
place_of k (j ∷ ks) = cond (eqb j k) 0 (suc (place_of k ks))

-- where none stands twice, it is the place
pub place_is : (ks : List ℕ) → Distinct ks → (n k : ℕ) → slice_get ks n ≡ Some k → place_of k ks ≡ n
place_is [] once n k e = cc
place_is (j ∷ ks) once zero k e = let same : j ≡ k = cc in let test : eqb j k ≡ true = eq-eqb j k same in rw test refl
place_is (j ∷ ks) once (suc n) k e =
    ⊎_elim
    (λ (t : (eqb j k ≡ true) × (j ≡ k)). absurd (once.0 (subst (In ks) (sym t.1) (get_in ks n k e))))
    (λ (t : (eqb j k ≡ false) × (j ≢ k)). rw t.0 (ap suc (place_is ks once.1 n k e)))
    (eqb_tells j k)

-- the value at a number's place fits its width
pub place_fits : (w : ℕ → ℕ) (ks vs : List ℕ) → FitEach (map w ks) vs → (k : ℕ) → slice_index vs (place_of k ks) < 2 ^ w k
place_fits w [] [] fit k = pow_pos (w k)
place_fits w [] (v ∷ vs) fit k = absurd fit
place_fits w (j ∷ ks) [] fit k = absurd fit
place_fits w (j ∷ ks) (v ∷ vs) fit k =
    ⊎_elim
    (λ (t : (eqb j k ≡ true) × (j ≡ k)). rw t.0 (subst (λ (i : ℕ). v < 2 ^ w i) t.1 fit.0))
    (λ (t : (eqb j k ≡ false) × (j ≢ k)). rw t.0 (place_fits w ks vs fit.1 k))
    (eqb_tells j k)
