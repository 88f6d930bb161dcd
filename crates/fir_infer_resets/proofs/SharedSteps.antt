-- Paths that share steps at their heads, and those of the same leaf of two elements.
use Rattle.std.proofs.Common.{◌≡◌, ℕ, zero, suc, ◌+◌, ◌-◌, ◌<◌, ◌≤◌, List, [], ◌∷◌, ◌++◌, take, drop, length, get_or, length-drop, length-append, Some, refl, sym, ap, ◌∙◌, subst, inl, inr, ◌⊎◌, arith, append_assoc}
use Rattle.std.specs.Prelude.{option_map, slice_get}
use Rattle.std.proofs.lemmas.Bool.{cases_lt}
use Rattle.std.proofs.lemmas.List.{map-append, take_all, take-append-drop, drop_more, take-map, drop-map, length-map}
use Rattle.std.proofs.lemmas.Option.{same_Some, slice_get-map, slice_get-get_or, slice_get_within}
use Rattle.std.proofs.Math.Seq.{drop-append_seam}
use Rattle.fir_base.proofs.Elements.{get_behind, there}
use Rattle.fir_meaning.specs.LeafPaths.{LeafPath, named, element, Step as StepOfPath}
use Rattle.fir_infer_resets.specs.declared.item.Step.{Step}
use Rattle.fir_infer_resets.specs.working.Holding.{path_of, step_of}
use Rattle.fir_infer_resets.specs.working.DirectWalks.{AreElementPaths, DiffersAt, IsElement, SharesFirst}

-- the step at a place of a path
pub step_at : (path : List Step) (n : ℕ) (d : Step) → n < length path → slice_get (path_of path) n ≡ Some (step_of (get_or path n d))
step_at path n d within = slice_get-map step_of path n ∙ ap (option_map step_of) (slice_get-get_or path n d within)

-- paths of which all steps are shared
pub all_shared : (one other : List Step) (n : ℕ) → SharesFirst one other n → length one ≡ length other → n ≡ length one → path_of one ≡ path_of other
all_shared one other n h long all =
    ap path_of (sym (take_all n one (omega (arith, all)))) ∙ h.same ∙ ap path_of (take_all n other (omega (arith, all, long)))

-- and of one path all are
pub shares_all : (one other : List Step) (n : ℕ) → SharesFirst one other n → DiffersAt (path_of one) (path_of other) n → path_of one ≡ path_of other → n ≡ length one
shares_all one other n h differs same = by (cases_lt n (length one))
  where
    by : (n < length one) ⊎ (length one ≤ n) → n ≡ length one
    by (inl lt) =
        let at = there one n lt in
        let is : slice_get (path_of one) n ≡ Some (step_of at.0) = slice_get-map step_of one n ∙ ap (option_map step_of) at.1 in
        absurd (differs (step_of at.0) is (ap (λ p. slice_get p n) (sym same) ∙ is))
    by (inr ge) = omega (arith, h.one_within)

cut : (path : List Step) (n : ℕ) (d : Step) → n < length path → path_of path ≡ path_of (take n path) ++ step_of (get_or path n d) ∷ path_of (drop (n + 1) path)
cut path n d within =
    let parts : path ≡ take n path ++ get_or path n d ∷ drop (n + 1) path = sym (take-append-drop n path) ∙ ap (λ s. take n path ++ s) (drop_more path n d within) in
    ap path_of parts ∙ map-append step_of (take n path) (get_or path n d ∷ drop (n + 1) path)

index_of : (s : StepOfPath) → IsElement s → (i : ℕ) × (s ≡ element i)
index_of (named x) h = absurd h
index_of (element i) h = (i, refl)

read : (path : List Step) (n : ℕ) (s : Step) → s ≡ get_or path n s → IsElement (step_of s) → IsElement (step_of (get_or path n s))
read path n s at h = subst (λ (t : Step). IsElement (step_of t)) at h

pub behind : (path : List Step) (n : ℕ) → take (length path - n) (drop n path) ≡ drop n path
behind path n = take_all (length path - n) (drop n path) (omega (arith, length-drop n path))

-- paths that differ in the number of one element
pub element_paths : (one other : List Step) (n : ℕ) (s t : Step) → SharesFirst one other n → DiffersAt (path_of one) (path_of other) n → n < length one → n < length other
    → s ≡ get_or one n s → t ≡ get_or other n t → IsElement (step_of s) → IsElement (step_of t)
    → path_of (drop (n + 1) one) ≡ path_of (drop (n + 1) other) → AreElementPaths (path_of one) (path_of other)
element_paths one other n s t h differs within other_within at other_at is other_is same =
    let i = index_of (step_of (get_or one n s)) (read one n s at is) in
    let j = index_of (step_of (get_or other n t)) (read other n t other_at other_is) in
    let rest = path_of (drop (n + 1) one) in
    record {
      vector = path_of (take n one);
      one = i.0;
      other = j.0;
      rest = rest;
      are_two = λ e. differs (element i.0) (step_at one n s within ∙ ap Some i.1) (step_at other n t other_within ∙ ap Some (j.1 ∙ ap element (sym e)));
      one_is = cut one n s within ∙ ap (λ s. path_of (take n one) ++ s ∷ rest) i.1;
      other_is =
          cut other n t other_within ∙ ap (λ p. p ++ step_of (get_or other n t) ∷ path_of (drop (n + 1) other)) (sym h.same)
          ∙ ap (λ s. path_of (take n one) ++ s ∷ path_of (drop (n + 1) other)) j.1 ∙ ap (λ p. path_of (take n one) ++ element j.0 ∷ p) (sym same);
    }

-- back from such paths: they differ where they first do, in an element
pub record Forks (one other : List Step) (n : ℕ) : Type 0 where
  pub one_within : n < length one
  pub other_within : n < length other
  pub one_is : (s : Step) → s ≡ get_or one n s → IsElement (step_of s)
  pub other_is : (s : Step) → s ≡ get_or other n s → IsElement (step_of s)
  pub same : path_of (drop (n + 1) one) ≡ path_of (drop (n + 1) other)

fork_place : (vector rest : LeafPath) (i j n : ℕ) → (i ≡ j → ⊥) → take n (vector ++ element i ∷ rest) ≡ take n (vector ++ element j ∷ rest)
    → DiffersAt (vector ++ element i ∷ rest) (vector ++ element j ∷ rest) n → n ≡ length vector
fork_place [] rest i j zero two same differs = refl
fork_place [] rest i j (suc n) two same differs = let e : i ≡ j = cc in absurd (two e)
fork_place (s ∷ vector) rest i j zero two same differs = absurd (differs s refl refl)
fork_place (s ∷ vector) rest i j (suc n) two same differs =
    let more : take n (vector ++ element i ∷ rest) ≡ take n (vector ++ element j ∷ rest) = cc in
    ap suc (fork_place vector rest i j n two more differs)

-- one of the two paths
record Side (path : List Step) (n : ℕ) (rest : LeafPath) : Type 0 where
  within : n < length path
  is : (s : Step) → s ≡ get_or path n s → IsElement (step_of s)
  behind_is : path_of (drop (n + 1) path) ≡ rest

side : (path : List Step) (n i : ℕ) (vector rest : LeafPath) → path_of path ≡ vector ++ element i ∷ rest → n ≡ length vector → Side path n rest
side path n i vector rest path_is place =
    let at : slice_get (path_of path) n ≡ Some (element i) = ap (slice_get (path_of path)) place ∙ ap (λ l. slice_get l (length vector)) path_is ∙ get_behind vector rest (element i) in
    let within : n < length path = omega (arith, slice_get_within (path_of path) n (element i) at, length-map path step_of) in
    let whole : path_of path ≡ (vector ++ element i ∷ []) ++ rest = path_is ∙ sym (append_assoc vector (element i ∷ []) rest) in
    let long : n + 1 ≡ length (vector ++ element i ∷ []) = omega (arith, place, length-append vector (element i ∷ [])) in
    record {
      within = within;
      is = λ s own.
          let step : step_of (get_or path n s) ≡ element i = same_Some (step_of (get_or path n s)) (element i) (sym (step_at path n s within) ∙ at) in
          subst (λ (t : StepOfPath). IsElement t) (sym (ap step_of own ∙ step)) tt;
      behind_is =
          sym (drop-map step_of (n + 1) path) ∙ ap (λ m. drop m (path_of path)) long ∙ ap (drop (length (vector ++ element i ∷ []))) whole
          ∙ drop-append_seam (vector ++ element i ∷ []) rest;
    }

pub forks : (one other : List Step) (n : ℕ) → SharesFirst one other n → DiffersAt (path_of one) (path_of other) n → AreElementPaths (path_of one) (path_of other) → Forks one other n
forks one other n h differs e =
    let first : take n (path_of one) ≡ take n (path_of other) = take-map step_of n one ∙ h.same ∙ sym (take-map step_of n other) in
    let same : take n (e.vector ++ element e.one ∷ e.rest) ≡ take n (e.vector ++ element e.other ∷ e.rest) = ap (take n) (sym e.one_is) ∙ first ∙ ap (take n) e.other_is in
    let apart : DiffersAt (e.vector ++ element e.one ∷ e.rest) (e.vector ++ element e.other ∷ e.rest) n =
    λ s left right. differs s (ap (λ p. slice_get p n) e.one_is ∙ left) (ap (λ p. slice_get p n) e.other_is ∙ right) in
    let place = fork_place e.vector e.rest e.one e.other n e.are_two same apart in
    let left = side one n e.one e.vector e.rest e.one_is place in
    let right = side other n e.other e.vector e.rest e.other_is place in
    record { one_within = left.within; other_within = right.within; one_is = left.is; other_is = right.is; same = left.behind_is ∙ sym right.behind_is }
