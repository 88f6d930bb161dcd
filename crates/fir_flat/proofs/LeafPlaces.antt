-- The value of a leaf among values in the order of other leaves, and its place among them.
use Rattle.std.proofs.Common.{◌≡◌, ◌≢◌, ℕ, zero, suc, ◌+◌, List, [], ◌∷◌, length, take, map, true, false, nat_eq, if◌then◌else◌, eqb, slice_get, slice_index, refl, ap, ◌∙◌, ⊎_elim, arith}
use Rattle.std.specs.Prelude.{Some}
use Rattle.std.proofs.lemmas.Bool.{eq-eqb}
use Rattle.std.proofs.lemmas.Bool.Decides.{eqb_tells}
use Rattle.fir_base.specs.Ticks.{FitEach}
use Rattle.fir_meaning.specs.working.LeafStates.{look, place_in}
use Rattle.fir_net.proofs.Places.{place_of}

-- where there are as many values as leaves; of a leaf that is not among them it is 0
pub look_is : (w : ℕ → ℕ) (ks vs : List ℕ) → FitEach (map w ks) vs → (x : ℕ) → look ks vs x ≡ slice_index vs (place_of x ks)
look_is w [] [] fit x = refl
look_is w [] (v ∷ vs) fit x = absurd fit
look_is w (k ∷ ks) [] fit x = absurd fit
look_is w (k ∷ ks) (v ∷ vs) fit x =
    ⊎_elim
    (λ (t : (eqb k x ≡ true) × (k ≡ x)). rw t.0 refl)
    (λ (t : (eqb k x ≡ false) × (k ≢ x)). rw t.0 (look_is w ks vs fit.1 x))
    (eqb_tells k x)

-- what stands behind the values of the leaves is not looked at
pub look_front : (ks vs : List ℕ) (x : ℕ) → look ks vs x ≡ look ks (take (length ks) vs) x
look_front [] vs x = refl
look_front (k ∷ ks) [] x = refl
look_front (k ∷ ks) (v ∷ vs) x = ap (λ (n : ℕ). if nat_eq k x then v else n) (look_front ks vs x)

-- one of them has a place
pub place_is_in : (ks : List ℕ) (b x n : ℕ) → slice_get ks n ≡ Some x → place_in ks b x ≡ Some (b + place_of x ks)
place_is_in [] b x n e = cc
place_is_in (k ∷ ks) b x zero e =
    let same : k ≡ x = cc in
    let test : eqb k x ≡ true = eq-eqb k x same in
    let here : b ≡ b + 0 = omega arith in
    rw test (ap Some here)
place_is_in (k ∷ ks) b x (suc n) e =
    ⊎_elim
    (λ (t : (eqb k x ≡ true) × (k ≡ x)). let here : b ≡ b + 0 = omega arith in rw t.0 (ap Some here))
    (λ (t : (eqb k x ≡ false) × (k ≢ x)).
    let sum : b + 1 + place_of x ks ≡ b + suc (place_of x ks) = omega arith in
    rw t.0 (place_is_in ks (b + 1) x n e ∙ ap Some sum))
    (eqb_tells k x)
