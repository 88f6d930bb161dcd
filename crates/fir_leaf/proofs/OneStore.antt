-- What is stored at a leaf's number is stored at its path.
use Rattle.std.proofs.Common.{◌≡◌, ℕ, ◌<◌, List, [], ◌∷◌, Bool, true, false, nat_eq, if◌then◌else◌, length, Option, Some, None, option_map, refl, sym, ap, ◌∙◌, ⊎_elim}
use Rattle.std.proofs.lemmas.Bool.{cases_eq, eq-eqb, ne_eqb, eqb-true, false_from_ne_true}
use Rattle.fir_base.proofs.SameNames.{name_is, name_same}
use Rattle.fir_base.proofs.Tests.{both}
use Rattle.fir_bits.specs.declared.values.Num.{Num}
use Rattle.fir_meaning.specs.LeafPaths.{LeafPath, Step, named, element}
use Rattle.fir_meaning.specs.TypedScopes.{TypedScope}
use Rattle.fir_meaning.specs.Values.{fit}
use Rattle.fir_meaning.specs.working.Terms.{Term}
use Rattle.fir_meaning.specs.working.TermValues.{eval}
use Rattle.fir_meaning.specs.working.LeafBlocks.{LeafStore, stored_at, stored}
use Rattle.fir_meaning.specs.CountedWhens.{counts}
use Rattle.fir_meaning.specs.TreeValues.{ValuesByPath}
use Rattle.fir_meaning.specs.SamePaths.{same_step, same_path}
use Rattle.fir_meaning.specs.working.TreeStores.{PathStore, path_stored_at, LeafFacts, path_stored}
use Rattle.fir_leaf.specs.working.LeafLaws.{numbered, path_at, scope_paths, IsFine, IsSameStore, number_given}
use Rattle.fir_leaf.proofs.OwnPaths.{path_once}

-- the tests find what is equal
step_is : (s r : Step) → same_step s r ≡ true → s ≡ r
step_is (named x) (named y) h = ap named (name_is x y h)
step_is (element i) (element j) h = ap element (eqb-true i j h)
step_is (named x) (element j) h = cc
step_is (element i) (named y) h = cc

pub path_is : (p q : LeafPath) → same_path p q ≡ true → p ≡ q
path_is [] [] h = refl
path_is [] (y ∷ ys) h = cc
path_is (x ∷ xs) [] h = cc
path_is (x ∷ xs) (y ∷ ys) h =
    let tests = both (same_step x y) (same_path xs ys) h in
    let first : x ≡ y = step_is x y tests.0 in
    let rest : xs ≡ ys = path_is xs ys tests.1 in
    cc

step_same : (s : Step) → same_step s s ≡ true
step_same (named x) = name_same x
step_same (element i) = eq-eqb i i refl

pub path_same : (p : LeafPath) → same_path p p ≡ true
path_same [] = refl
path_same (x ∷ xs) = rw (step_same x, path_same xs) refl

-- paths of numbers are the same where the numbers are
same_numbers : (whole : TypedScope) (i j : ℕ) → IsFine whole → i < length (scope_paths whole) → j < length (scope_paths whole)
    → same_path (path_at whole i) (path_at whole j) ≡ nat_eq i j
same_numbers whole i j fine lt less =
    ⊎_elim
    (λ (e : i ≡ j). ap (λ k. same_path (path_at whole i) (path_at whole k)) (sym e) ∙ path_same (path_at whole i) ∙ sym (eq-eqb i j e))
    (λ (ne : i ≡ j → ⊥).
    false_from_ne_true (same_path (path_at whole i) (path_at whole j))
    (λ t. ne (path_once whole i j fine lt less (path_is (path_at whole i) (path_at whole j) t)))
    ∙ sym (ne_eqb i j ne))
    (cases_eq i j)

module _ (whole : TypedScope) (fine : IsFine whole) where
  stored_each : (n v : ℕ) (ns : LeafStore ℕ) (ps : PathStore) → n < length (scope_paths whole) → IsSameStore whole ns ps
      → IsSameStore whole (stored_at n v ns) (path_stored_at (path_at whole n) v ps)
  stored_each n v ns ps within same = record {
    each = λ k lt.
        ap (λ o. if nat_eq n k then Some v else o) (same.each k lt)
        ∙ ap (λ (b : Bool). if b then Some v else ps (path_at whole k)) (sym (same_numbers whole n k fine within lt));
  }

  stored_if : (c : Bool) (n v w : ℕ) (ns : LeafStore ℕ) (ps : PathStore) → n < length (scope_paths whole) → v ≡ w → IsSameStore whole ns ps
      → IsSameStore whole (if c then stored_at n v ns else ns) (if c then path_stored_at (path_at whole n) w ps else ps)
  stored_if true n v w ns ps within e same = rw e (stored_each n w ns ps within same)
  stored_if false n v w ns ps within e same = same

  module _ (facts : LeafFacts) (env : ValuesByPath) where
    -- a leaf by its number, or none, and by its path, take what a term gives
    pub one_stored : (o : Option ℕ) (q : Option LeafPath) (t : Term) (v : Num) (taken : List Bool) (ns : LeafStore ℕ) (ps : PathStore)
        → ((y : ℕ) → o ≡ Some y → y < length (scope_paths whole)) → q ≡ option_map (path_at whole) o
        → eval (numbered whole facts.holds) (numbered whole env) t ≡ v → IsSameStore whole ns ps
        → IsSameStore whole
        (stored (numbered whole facts.holds) (numbered whole facts.depth) (numbered whole env) (number_given whole facts.holds env) o t taken ns)
        (path_stored facts env q v taken ps)
    one_stored None q t v taken ns ps within e f same = rw e same
    one_stored (Some y) q t v taken ns ps within e f same =
        rw e (stored_if (counts (facts.depth (path_at whole y)) taken) y (number_given whole facts.holds env y t) (fit v (facts.holds (path_at whole y))) ns ps
        (within y refl) (ap (λ n. fit n (facts.holds (path_at whole y))) f) same)
