-- Two paths are the same exactly where the test says so.
use Rattle.std.proofs.Common.{◌≡◌, [], ◌∷◌, true, false, refl, ap}
use Rattle.std.proofs.lemmas.Bool.{and_from, and_parts, eq-eqb, eqb-true, false_from_ne_true}
use Rattle.std.proofs.lemmas.Slice.Eq.{bytes_eq-Decides}
use Rattle.fir_meaning.specs.LeafPaths.{LeafPath, Step, element, named}
use Rattle.fir_meaning.specs.SamePaths.{same_path, same_step}

step_is : (s r : Step) → same_step s r ≡ true → s ≡ r
step_is (named x) (named y) h = ap named ((bytes_eq-Decides x y).0 h)
step_is (element i) (element j) h = ap element (eqb-true i j h)
step_is (named x) (element j) h = absurd (cc)
step_is (element i) (named y) h = absurd (cc)

pub path_is : (p q : LeafPath) → same_path p q ≡ true → p ≡ q
path_is [] [] h = refl
path_is [] (y ∷ ys) h = absurd (cc)
path_is (x ∷ xs) [] h = absurd (cc)
path_is (x ∷ xs) (y ∷ ys) h = let a = and_parts (same_step x y) _ h in rw (step_is x y a.0, path_is xs ys a.1) refl

step_same : (s : Step) → same_step s s ≡ true
step_same (named x) = (bytes_eq-Decides x x).1 refl
step_same (element i) = eq-eqb i i refl

path_same : (p : LeafPath) → same_path p p ≡ true
path_same [] = refl
path_same (x ∷ xs) = and_from (same_step x x) (same_path xs xs) (step_same x) (path_same xs)

pub path_equal : (p q : LeafPath) → p ≡ q → same_path p q ≡ true
path_equal p q e = rw e (path_same q)

pub path_other : (p q : LeafPath) → (p ≡ q → ⊥) → same_path p q ≡ false
path_other p q ne = false_from_ne_true (same_path p q) (λ e. ne (path_is p q e))
