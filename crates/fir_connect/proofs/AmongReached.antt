-- Tests for a leaf among others.
use Rattle.std.proofs.Common.{◌≡◌, ℕ, [], ◌∷◌, List, true, false, inl, inr, ⊎_elim, nat_eq}
use Rattle.std.proofs.lemmas.Bool.{eqb-true, or_cases}
use Rattle.fir_base.specs.Lists.{In}
use Rattle.fir_meaning.specs.working.TermReads.{is_among}
use Rattle.fir_leaf.proofs.PickedLeaves.{among_in}

pub in_among : (xs : List ℕ) (x : ℕ) → is_among xs x ≡ true → In xs x
in_among [] x e = absurd cc
in_among (y ∷ xs) x e =
    ⊎_elim
    (λ (h : nat_eq y x ≡ true). inl (eqb-true y x h))
    (λ (h : is_among xs x ≡ true). inr (in_among xs x h))
    (or_cases (nat_eq y x) (is_among xs x) e)

pub not_among : (xs : List ℕ) (x : ℕ) → is_among xs x ≡ false → In xs x → ⊥
not_among xs x e m = let is : is_among xs x ≡ true = among_in xs x m in absurd cc
