-- Lists without members.
use Rattle.std.proofs.Common.{◌≡◌, List, [], ◌++◌, refl, subst}
use Rattle.fir_base.specs.Lists.{In}

pub both_empty : {A : Type 0} → (xs ys : List A) → xs ≡ [] → ys ≡ [] → xs ++ ys ≡ []
both_empty xs ys h g = rw (h, g) refl

pub none_in : {A : Type 0} → (xs : List A) → xs ≡ [] → (x : A) → In xs x → ⊥
none_in xs h x m = subst (λ ys. In ys x) h m
