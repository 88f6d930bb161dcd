-- The parts of empty lists.
use Rattle.std.proofs.Common.{◌≡◌, List, [], ◌∷◌, ◌++◌, flat_map, refl, inl, inr, subst}
use Rattle.fir_base.specs.Lists.{In}

pub empty_left : {A : Type 0} → (xs ys : List A) → xs ++ ys ≡ [] → xs ≡ []
empty_left [] ys h = refl
empty_left (x ∷ xs) ys h = cc

pub empty_right : {A : Type 0} → (xs ys : List A) → xs ++ ys ≡ [] → ys ≡ []
empty_right [] ys h = h
empty_right (x ∷ xs) ys h = cc

-- where all is empty, so is what a member gives
pub empty_at : {X A : Type 0} → (f : X → List A) (xs : List X) → flat_map f xs ≡ [] → (x : X) → In xs x → f x ≡ []
empty_at f [] h x m = absurd m
empty_at f (z ∷ xs) h x (inl e) = subst (λ w. f w ≡ []) e (empty_left (f z) (flat_map f xs) h)
empty_at f (z ∷ xs) h x (inr m) = empty_at f xs (empty_right (f z) (flat_map f xs) h) x m
