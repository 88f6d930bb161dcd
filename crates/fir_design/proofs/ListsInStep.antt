-- Two lists go in step: as long as one another, and a relation holds of them one by one.
use Rattle.std.proofs.Common.{◌≡◌, ℕ, zero, suc, List, [], ◌∷◌, ◌++◌, map, length, slice_get, Some, refl, ap, ap₂}

module _ {A B : Type 0} (R : A → B → Type 0) where
  abbrev pub AreInStep : List A → List B → Type 0
  AreInStep [] [] = Unit {0}
  AreInStep (x ∷ xs) (y ∷ ys) = R x y × AreInStep xs ys
  AreInStep _ _ = ⊥

  pub step_joined : (xs ws : List A) (ys zs : List B) → AreInStep xs ys → AreInStep ws zs → AreInStep (xs ++ ws) (ys ++ zs)
  step_joined [] ws [] zs h k = k
  step_joined [] ws (y ∷ ys) zs h k = absurd h
  step_joined (x ∷ xs) ws [] zs h k = absurd h
  step_joined (x ∷ xs) ws (y ∷ ys) zs h k = (h.0, step_joined xs ws ys zs h.1 k)

  pub step_long : (xs : List A) (ys : List B) → AreInStep xs ys → length xs ≡ length ys
  step_long [] [] h = refl
  step_long [] (y ∷ ys) h = absurd h
  step_long (x ∷ xs) [] h = absurd h
  step_long (x ∷ xs) (y ∷ ys) h = ap suc (step_long xs ys h.1)

  -- beside each element stands one
  pub step_at : (xs : List A) (ys : List B) → AreInStep xs ys → (k : ℕ) (y : B) → slice_get ys k ≡ Some y
      → (x : A) × (slice_get xs k ≡ Some x) × R x y
  step_at [] [] h k y e = absurd (cc)
  step_at [] (z ∷ ys) h k y e = absurd h
  step_at (x ∷ xs) [] h k y e = absurd h
  step_at (x ∷ xs) (z ∷ ys) h zero y e = (x, refl, (let same : z ≡ y = cc in rw (← same) h.0))
  step_at (x ∷ xs) (z ∷ ys) h (suc k) y e = step_at xs ys h.1 k y e

  -- what goes in step with joined lists is joined
  pub step_parts : (xs ws : List A) (ys : List B) → AreInStep (xs ++ ws) ys
      → (us : List B) × (vs : List B) × (ys ≡ us ++ vs) × AreInStep xs us × AreInStep ws vs
  step_parts [] ws ys h = ([], ys, refl, tt, h)
  step_parts (x ∷ xs) ws [] h = absurd h
  step_parts (x ∷ xs) ws (y ∷ ys) h =
      let r = step_parts xs ws ys h.1 in (y ∷ r.0, r.1, ap (λ zs. y ∷ zs) r.2, (h.0, r.3), r.4)

-- what a function of the one and a function of the other have in common
pub step_mapped : {A B C : Type 0} (R : A → B → Type 0) (f : A → C) (g : B → C) → ((x : A) (y : B) → R x y → f x ≡ g y)
    → (xs : List A) (ys : List B) → AreInStep R xs ys → map f xs ≡ map g ys
step_mapped R f g same [] [] h = refl
step_mapped R f g same [] (y ∷ ys) h = absurd h
step_mapped R f g same (x ∷ xs) [] h = absurd h
step_mapped R f g same (x ∷ xs) (y ∷ ys) h = ap₂ (λ z zs. z ∷ zs) (same x y h.0) (step_mapped R f g same xs ys h.1)
