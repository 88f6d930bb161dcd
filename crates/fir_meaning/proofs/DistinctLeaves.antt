-- Each path is that of one leaf, where no bundle has two fields of one name.
use Rattle.std.proofs.Common.{◌≡◌, ℕ, zero, suc, ◌+◌, ◌≤◌, List, [], ◌∷◌, map, refl, sym, inl, inr, ⊎_elim, subst, arith}
use Rattle.fir_base.specs.Lists.{In, Distinct}
use Rattle.fir_ast.specs.Types.{DataType, bundle, vector, Fields, no_fields, field}
use Rattle.fir_meaning.specs.LeafPaths.{Step, named, element, LeafPath}
use Rattle.fir_meaning.specs.TypeLeaves.{TypeLeaf, element_leaves, type_leaves, field_leaves}
use Rattle.fir_meaning.specs.working.TypeLaws.{PathsAreDistinct}
use Rattle.fir_base.proofs.Members.{in_either}
use Rattle.fir_base.proofs.Twins.{distinct_joined}
use Rattle.fir_meaning.proofs.LeafSteps.{path_of, behind_step, paths_joined, element_paths}
use Rattle.fir_meaning.proofs.FreshFields.{field_names, HasFreshFields, AreFresh, fresh_fields}

-- the step with which a path begins
abbrev Begins : LeafPath → Step → Type 0
Begins [] s = ⊥
Begins (x ∷ p) s = x ≡ s

begins_once : (p : LeafPath) (s t : Step) → Begins p s → Begins p t → s ≡ t
begins_once [] s t a b = absurd a
begins_once (x ∷ p) s t a b = cc

-- paths behind one step
in_behind : (s : Step) (ps : List LeafPath) (p : LeafPath) → In (map (behind_step s) ps) p → Begins p s
in_behind s [] p m = absurd m
in_behind s (q ∷ ps) p (inl e) = subst (λ z. Begins z s) e refl
in_behind s (q ∷ ps) p (inr m) = in_behind s ps p m

in_behind_back : (s : Step) (ps : List LeafPath) (p : LeafPath) → In (map (behind_step s) ps) (s ∷ p) → In ps p
in_behind_back s [] p m = absurd m
in_behind_back s (q ∷ ps) p (inl e) = inl (cc)
in_behind_back s (q ∷ ps) p (inr m) = inr (in_behind_back s ps p m)

distinct_behind : (s : Step) (ps : List LeafPath) → Distinct ps → Distinct (map (behind_step s) ps)
distinct_behind s [] d = tt
distinct_behind s (p ∷ ps) d = (λ m. d.0 (in_behind_back s ps p m), distinct_behind s ps d.1)

-- paths of elements begin with their numbers
begins_from : (i n : ℕ) (ls : List TypeLeaf) (p : LeafPath) → In (map path_of (element_leaves i n ls)) p → (k : ℕ) × (i ≤ k) × Begins p (element k)
begins_from i zero ls p m = absurd m
begins_from i (suc n) ls p m =
    ⊎_elim
    (λ (k : In (map (behind_step (element i)) (map path_of ls)) p). (i, omega arith, in_behind (element i) (map path_of ls) p k))
    (λ (k : In (map path_of (element_leaves (i + 1) n ls)) p). let r = begins_from (i + 1) n ls p k in (r.0, omega (arith, r.1), r.2))
    (in_either (map (behind_step (element i)) (map path_of ls)) (map path_of (element_leaves (i + 1) n ls)) p (subst (λ l. In l p) (element_paths i n ls) m))

distinct_elements : (i n : ℕ) (ls : List TypeLeaf) → Distinct (map path_of ls) → Distinct (map path_of (element_leaves i n ls))
distinct_elements i zero ls d = tt
distinct_elements i (suc n) ls d =
    subst Distinct (sym (element_paths i n ls))
    (distinct_joined (map (behind_step (element i)) (map path_of ls)) (map path_of (element_leaves (i + 1) n ls))
    (distinct_behind (element i) (map path_of ls) d) (distinct_elements (i + 1) n ls d)
    (λ p a b.
    let r = begins_from (i + 1) n ls p b in
    let e = begins_once p (element i) (element r.0) (in_behind (element i) (map path_of ls) p a) r.2 in
    let same : i ≡ r.0 = cc in
    absurd (omega (arith, same, r.1))))

-- paths of fields begin with their names
begins_named : (fs : Fields) (p : LeafPath) → In (map path_of (field_leaves fs)) p → (x : List ℕ) × In (field_names fs) x × Begins p (named x)
begins_named no_fields p m = absurd m
begins_named (field q f x b t rest) p m =
    ⊎_elim
    (λ (k : In (map (behind_step (named x)) (map path_of (type_leaves t))) p). (x, inl refl, in_behind (named x) (map path_of (type_leaves t)) p k))
    (λ (k : In (map path_of (field_leaves rest)) p). let r = begins_named rest p k in (r.0, inr r.1, r.2))
    (in_either (map (behind_step (named x)) (map path_of (type_leaves t))) (map path_of (field_leaves rest)) p
    (subst (λ l. In l p) (paths_joined f (named x) (type_leaves t) (field_leaves rest)) m))

mutual
  distinct_leaves : (t : DataType) → HasFreshFields t → Distinct (map path_of (type_leaves t))
  distinct_leaves (bundle fs) h = distinct_fields fs h
  distinct_leaves (vector t n) h = distinct_elements 0 n (type_leaves t) (distinct_leaves t h)
  distinct_leaves t h = (λ m. absurd m, tt)

  distinct_fields : (fs : Fields) → AreFresh fs → Distinct (map path_of (field_leaves fs))
  distinct_fields no_fields h = tt
  distinct_fields (field q f x b t rest) h =
      subst Distinct (sym (paths_joined f (named x) (type_leaves t) (field_leaves rest)))
      (distinct_joined (map (behind_step (named x)) (map path_of (type_leaves t))) (map path_of (field_leaves rest))
      (distinct_behind (named x) (map path_of (type_leaves t)) (distinct_leaves t h.1)) (distinct_fields rest h.2)
      (λ p a c.
      let r = begins_named rest p c in
      let e = begins_once p (named x) (named r.0) (in_behind (named x) (map path_of (type_leaves t)) p a) r.2 in
      let same : r.0 ≡ x = cc in
      h.0 (subst (In (field_names rest)) same r.1)))

pub paths_distinct : PathsAreDistinct
paths_distinct t h = distinct_leaves t (fresh_fields t h)
