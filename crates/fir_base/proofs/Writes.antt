-- Elements of a list after a push, and after one was written.
use Rattle.std.proofs.Common.{◌≡◌, ℕ, zero, suc, ◌<◌, List, [], ◌∷◌, ◌++◌, Some, length, set, replicate, refl, sym, ap, ◌∙◌, inl, inr, ◌⊎◌, arith}
use Rattle.std.specs.Prelude.{slice_get}
use Rattle.std.proofs.lemmas.Bool.{cases_eq}
use Rattle.std.proofs.lemmas.Option.{none-some, same_Some, slice_get_within}
use Rattle.fir_base.proofs.Elements.{get_left, get_behind}

pub push_left : {A : Type 0} → (xs ys : List A) (i : ℕ) (z : A) → slice_get xs i ≡ Some z → slice_get (xs ++ ys) i ≡ Some z
push_left xs ys i z h = get_left xs ys i (slice_get_within xs i z h) ∙ h

pub push_end : {A : Type 0} → (xs : List A) (y : A) → slice_get (xs ++ y ∷ []) (length xs) ≡ Some y
push_end xs y = get_behind xs [] y

-- an old one, or the new one
abbrev pub PushedOr : {A : Type 0} → List A → A → ℕ → A → Type 0
PushedOr xs y i z = (slice_get xs i ≡ Some z) ⊎ ((i ≡ length xs) × (y ≡ z))

pub push_cases : {A : Type 0} → (xs : List A) (y : A) (i : ℕ) (z : A) → slice_get (xs ++ y ∷ []) i ≡ Some z → PushedOr xs y i z
push_cases [] y zero z h = inr (refl, cc)
push_cases [] y (suc i) z h = absurd (none-some z h)
push_cases (x ∷ xs) y zero z h = inl h
push_cases (x ∷ xs) y (suc i) z h = more (push_cases xs y i z h)
  where
    more : PushedOr xs y i z → PushedOr (x ∷ xs) y (suc i) z
    more (inl e) = inl e
    more (inr (e, f)) = inr (ap suc e, f)

pub write_same : {A : Type 0} → (xs : List A) (i : ℕ) (y : A) → i < length xs → slice_get (set xs i y) i ≡ Some y
write_same [] i y h = absurd (omega (arith, h))
write_same (x ∷ xs) zero y h = refl
write_same (x ∷ xs) (suc i) y h = write_same xs i y (omega (arith, h))

pub write_other : {A : Type 0} → (xs : List A) (i : ℕ) (y : A) (j : ℕ) → (j ≡ i → ⊥) → slice_get (set xs i y) j ≡ slice_get xs j
write_other [] i y j n = refl
write_other (x ∷ xs) zero y zero n = absurd (n refl)
write_other (x ∷ xs) zero y (suc j) n = refl
write_other (x ∷ xs) (suc i) y zero n = refl
write_other (x ∷ xs) (suc i) y (suc j) n = write_other xs i y j (λ e. n (ap suc e))

-- the one that was written, or another
abbrev pub WrittenOr : {A : Type 0} → List A → ℕ → A → ℕ → A → Type 0
WrittenOr xs i y j z = ((j ≡ i) × (y ≡ z)) ⊎ ((j ≡ i → ⊥) × (slice_get xs j ≡ Some z))

pub write_cases : {A : Type 0} → (xs : List A) (i : ℕ) (y : A) (j : ℕ) (z : A) → i < length xs → slice_get (set xs i y) j ≡ Some z → WrittenOr xs i y j z
write_cases xs i y j z within h = by (cases_eq j i)
  where
    by : (j ≡ i) ⊎ (j ≡ i → ⊥) → WrittenOr xs i y j z
    by (inl e) = inl (e, same_Some y z (sym (write_same xs i y within) ∙ ap (slice_get (set xs i y)) (sym e) ∙ h))
    by (inr n) = inr (n, sym (write_other xs i y j n) ∙ h)

pub get-replicate : {A : Type 0} → (n i : ℕ) (x : A) → i < n → slice_get (replicate n x) i ≡ Some x
get-replicate zero i x h = absurd (omega (arith, h))
get-replicate (suc n) zero x h = refl
get-replicate (suc n) (suc i) x h = get-replicate n i x (omega (arith, h))

pub two_items : {A : Type 0} → (xs : List A) (i : ℕ) (y z : A) → slice_get xs i ≡ Some y → slice_get xs i ≡ Some z → y ≡ z
two_items xs i y z p q = same_Some y z (sym p ∙ q)

-- where one is written, others stay
pub kept : {A : Type 0} → (xs : List A) (i : ℕ) (old new : A) → slice_get xs i ≡ Some old → (j : ℕ) (z : A) → (old ≡ z → ⊥) → slice_get xs j ≡ Some z → slice_get (set xs i new) j ≡ Some z
kept xs i old new is j z n h = write_other xs i new j (λ e. n (two_items xs i old z is (ap (slice_get xs) (sym e) ∙ h))) ∙ h
