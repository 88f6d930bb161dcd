-- A path goes on behind its first step: in the field in which its leaf lies, or in the element.
use Rattle.std.proofs.Common.{◌≡◌, ◌≢◌, ℕ, ◌+◌, ◌-◌, ◌*◌, ◌/◌, ◌%◌, ◌^◌, ◌<◌, ◌≤◌, List, ◌∷◌, ◌++◌, ⊎_elim, Option, None, Some, length, refl, ap, sym, ◌∙◌, append_assoc, arith}
use Rattle.std.specs.Prelude.{flat_map, option_map, slice_get}
use Rattle.std.proofs.lemmas.Bool.{cases_lt}
use Rattle.std.proofs.lemmas.Option.{same_Some, slice_get-map, slice_get_within}
use Rattle.std.proofs.Math.Nat.{div-add-mod, div-eq_of_lt, mul-le-mul_right, mul_comm}
use Rattle.fir_base.proofs.Elements.{there}
use Rattle.fir_ast.specs.Types.{DataType, vector}
use Rattle.fir_meaning.specs.LeafPaths.{LeafPath, Step, element, named, step_text}
use Rattle.fir_meaning.specs.TypeLeaves.{TypeLeaf, leaf_count, type_leaves}
use Rattle.fir_meaning.proofs.LeafSteps.{path_of}
use Rattle.fir_type_table.specs.declared.kind.TypeId.{TypeId}
use Rattle.fir_type_table.specs.working.Saturated.{saturated}
use Rattle.fir_type_table.specs.working.Tables.{type_at}
use Rattle.fir_leaf.proofs.LeafPlaces.{element_stands_from, leaves_counted}
use Rattle.fir_leaf_text.specs.working.TypePaths.{GoesOn, IsStep, type_paths}
use Rattle.fir_leaf_text.proofs.FieldsOfLeaves.{path_in_field, paths_counted}

-- behind a step that is written
module _ (part : DataType) (inside : ℕ) (old new : List ℕ) (s : Step) (path : LeafPath) (written : new ≡ old ++ step_text s) where
  pub goes_on : (rest : LeafPath) → slice_get (type_paths part) inside ≡ Some rest → s ∷ rest ≡ path → GoesOn part inside old new path
  goes_on rest there begins = record {
    rest = rest;
    there = there;
    written = ap (λ l. l ++ flat_map step_text rest) written ∙ append_assoc old (step_text s) (flat_map step_text rest)
        ∙ ap (λ steps. old ++ flat_map step_text steps) begins;
  }

-- in a field
pub in_field : (ts : List DataType) (name : List ℕ) (id : TypeId) (inside : ℕ) (old new : List ℕ) (path : LeafPath)
    → path_in_field ts name id inside ≡ Some path → new ≡ old ++ step_text (named name) → GoesOn (type_at ts id.number) inside old new path
in_field ts name id inside old new path e written = by (slice_get (type_paths (type_at ts id.number)) inside) refl e
  where
    by : (o : Option LeafPath) → slice_get (type_paths (type_at ts id.number)) inside ≡ o → option_map (λ rest. named name ∷ rest) o ≡ Some path
        → GoesOn (type_at ts id.number) inside old new path
    by None none begins = absurd (cc)
    by (Some rest) there begins =
        goes_on (type_at ts id.number) inside old new (named name) path written rest there (same_Some (named name ∷ rest) path begins)

-- a count that stands still at 2^64 - 1 divides smaller numbers as the count itself does
divided : (leaf leaves count : ℕ) → leaf < 2 ^ 64 - 1 → leaves ≡ saturated count → leaf / leaves * count + leaf % leaves ≡ leaf
divided leaf leaves count fits counted = ⊎_elim exact still (cases_lt leaf leaves)
  where
    whole : leaves * (leaf / leaves) + leaf % leaves ≡ leaf
    whole = div-add-mod leaf leaves

    exact : leaf < leaves → leaf / leaves * count + leaf % leaves ≡ leaf
    exact less =
        let none : leaf / leaves ≡ 0 = div-eq_of_lt less in
        let no_more : leaves * 0 + leaf % leaves ≡ leaf = rw none at whole in
        rw none (omega arith)

    still : leaves ≤ leaf → leaf / leaves * count + leaf % leaves ≡ leaf
    still more =
        let same : count ≡ leaves = omega arith in
        ap (λ n. leaf / leaves * n + leaf % leaves) same ∙ ap (λ n. n + leaf % leaves) (mul_comm (leaf / leaves) leaves) ∙ whole

-- in an element
module _ (t : DataType) (n leaf leaves : ℕ) (fits : leaf < 2 ^ 64 - 1) (counted : leaves ≡ saturated (leaf_count t)) (some : leaves ≢ 0) where
  whole : leaf / leaves * leaf_count t + leaf % leaves ≡ leaf
  whole = divided leaf leaves (leaf_count t) fits counted

  less : leaf % leaves < leaf_count t
  less = omega arith

  within : (path : LeafPath) → slice_get (type_paths (vector t n)) leaf ≡ Some path → leaf < n * leaf_count t
  within path e = omega (arith, slice_get_within (type_paths (vector t n)) leaf path e, paths_counted (vector t n))

  one_of : leaf < n * leaf_count t → leaf / leaves < n
  one_of inside =
      ⊎_elim (λ (h : leaf / leaves < n). h)
      (λ (h : n ≤ leaf / leaves). let all = mul-le-mul_right (leaf_count t) h in absurd (omega (arith, all, whole)))
      (cases_lt (leaf / leaves) n)

  lies : (inside : leaf < n * leaf_count t) (l : TypeLeaf) → slice_get (type_leaves t) (leaf % leaves) ≡ Some l
      → slice_get (type_paths (vector t n)) leaf ≡ Some (element (leaf / leaves) ∷ l.path)
  lies inside l e =
      slice_get-map path_of (type_leaves (vector t n)) leaf
      ∙ ap (λ k. option_map path_of (slice_get (type_leaves (vector t n)) k)) (sym whole)
      ∙ ap (option_map path_of) ((element_stands_from t n (leaf / leaves) (one_of inside)).each (leaf % leaves) l e)

  pub in_element : (old new : List ℕ) (path : LeafPath) → slice_get (type_paths (vector t n)) leaf ≡ Some path
      → new ≡ old ++ step_text (element (leaf / leaves)) → GoesOn t (leaf % leaves) old new path
  in_element old new path e written =
      let l = there (type_leaves t) (leaf % leaves) (omega (arith, less, leaves_counted t)) in
      goes_on t (leaf % leaves) old new (element (leaf / leaves)) path written (l.0).path
      (slice_get-map path_of (type_leaves t) (leaf % leaves) ∙ ap (option_map path_of) l.1)
      (same_Some (element (leaf / leaves) ∷ (l.0).path) path (sym (lies (within path e) l.0 l.1) ∙ e))

-- a vector of what has no leaves has none
pub no_element : (t : DataType) (n leaf leaves : ℕ) (path : LeafPath) → leaves ≡ saturated (leaf_count t) → leaves ≡ 0
    → slice_get (type_paths (vector t n)) leaf ≡ Some path → ⊥
no_element t n leaf leaves path counted none e =
    let zero : leaf_count t ≡ 0 = omega arith in
    let all : length (type_paths (vector t n)) ≡ n * 0 = paths_counted (vector t n) ∙ ap (λ k. n * k) zero in
    omega (arith, slice_get_within (type_paths (vector t n)) leaf path e)

-- a path that goes on goes on by one step more, or ends
module _ (ts : List DataType) (id : TypeId) (leaf : ℕ) (old mid new : List ℕ) (path : LeafPath) (so_far : GoesOn (type_at ts id.number) leaf old mid path) where
  pub step_on : (part : TypeId) (inside : ℕ) → IsStep ts id leaf mid new (Some (part, inside)) → GoesOn (type_at ts part.number) inside old new path
  step_on part inside step =
      let next = step.2 so_far.rest so_far.there in
      record { rest = next.rest; there = next.there; written = next.written ∙ so_far.written }

  pub step_ends : IsStep ts id leaf mid new None → new ≡ old ++ flat_map step_text path
  step_ends ends = ends so_far.rest so_far.there ∙ so_far.written

pub nothing_by : {A : Type 0} (o : Option A) → ((x : A) → o ≡ Some x → ⊥) → o ≡ None
nothing_by None h = refl
nothing_by (Some x) h = absurd (h x refl)
