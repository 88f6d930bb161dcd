-- The test of two paths finds what is equal, and what is kept at one path shows there alone.
use Rattle.std.proofs.Common.{◌≡◌, [], ◌∷◌, true, Some, refl, ap}
use Rattle.std.proofs.lemmas.Bool.{eq-eqb, eqb-true, false_from_ne_true}
use Rattle.fir_base.proofs.SameNames.{name_is, name_same}
use Rattle.fir_base.proofs.Tests.{both}
use Rattle.fir_meaning.specs.PathStores.{DesignStore, kept_at}
use Rattle.fir_meaning.specs.LeafPaths.{LeafPath, Step, named, element}
use Rattle.fir_meaning.specs.SamePaths.{same_path, same_step}

step_is : (s r : Step) → same_step s r ≡ true → s ≡ r
step_is (named x) (named y) h = ap named (name_is x y h)
step_is (element i) (element j) h = ap element (eqb-true i j h)
step_is (named x) (element j) h = cc
step_is (element i) (named y) h = cc

pub leaf_is : (p q : LeafPath) → same_path p q ≡ true → p ≡ q
leaf_is [] [] h = refl
leaf_is [] (y ∷ ys) h = cc
leaf_is (x ∷ xs) [] h = cc
leaf_is (x ∷ xs) (y ∷ ys) h =
    let tests = both (same_step x y) (same_path xs ys) h in
    let first : x ≡ y = step_is x y tests.0 in
    let rest : xs ≡ ys = leaf_is xs ys tests.1 in
    cc

pub step_same : (s : Step) → same_step s s ≡ true
step_same (named x) = name_same x
step_same (element i) = eq-eqb i i refl

pub leaf_same : (p : LeafPath) → same_path p p ≡ true
leaf_same [] = refl
leaf_same (x ∷ xs) = rw (step_same x, leaf_same xs) refl

module _ {V : Type 0} (v : V) (store : DesignStore V) where
  pub kept_there : (x : LeafPath) → kept_at x v store x ≡ Some v
  kept_there x = rw (leaf_same x) refl

  pub kept_elsewhere : (x y : LeafPath) → (x ≡ y → ⊥) → kept_at x v store y ≡ store y
  kept_elsewhere x y apart = rw (false_from_ne_true (same_path x y) (λ t. apart (leaf_is x y t))) refl
