-- What holds of both of two holds of the one that a test of numbers chooses.
use Rattle.std.proofs.Common.{◌≡◌, ℕ, ◌<◌, ◌≤◌, List, [], ◌∷◌, refl, arith}
use Rattle.std.specs.Prelude.{nat_eq, nat_le, if◌then◌else◌}
use Rattle.std.proofs.lemmas.Bool.{cond_both, eqb-true, eqb-false, leb-true, leb-false}

pub if_equal : {A : Type 0} → (P : A → Type 0) (v w : ℕ) (x y : A) → (v ≡ w → P x) → ((v ≡ w → ⊥) → P y) → P (if nat_eq v w then x else y)
if_equal P v w x y h k = cond_both (nat_eq v w) x y P (λ t. h (eqb-true _ _ t)) (λ f. k (eqb-false _ _ f))

pub if_most : {A : Type 0} → (P : A → Type 0) (v w : ℕ) (x y : A) → (v ≤ w → P x) → (w < v → P y) → P (if nat_le v w then x else y)
if_most P v w x y h k = cond_both (nat_le v w) x y P (λ t. h (leb-true _ _ t)) (λ f. k (leb-false _ _ f))

-- one that stands where there are bits
pub no_bits_none : {A : Type 0} → (x : A) (w : ℕ) → w ≡ 0 → (if nat_eq w 0 then [] else (x ∷ [])) ≡ []
no_bits_none {A} x w e = if_equal (λ (xs : List A). xs ≡ []) w 0 [] (x ∷ []) (λ _. refl) (λ f. absurd (f e))

pub some_bits_one : {A : Type 0} → (x : A) (w : ℕ) → 1 ≤ w → (if nat_eq w 0 then [] else (x ∷ [])) ≡ x ∷ []
some_bits_one {A} x w h = if_equal (λ (xs : List A). xs ≡ x ∷ []) w 0 [] (x ∷ []) (λ e. absurd (omega arith)) (λ _. refl)
