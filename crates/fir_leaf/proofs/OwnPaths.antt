-- Each leaf of a scope has its own path, where no name is declared twice and no field of a type.
use Rattle.std.proofs.Common.{◌≡◌, ℕ, zero, suc, ◌<◌, List, [], ◌∷◌, map, flat_map, length, slice_index_or, Option, Some, None, refl, sym, ap, ◌∙◌, inl, inr, subst, arith}
use Rattle.fir_base.specs.Lists.{In, Distinct}
use Rattle.fir_base.proofs.Members.{in_flat_map_from, in_map, in_map_from}
use Rattle.fir_base.proofs.Twins.{distinct_joined}
use Rattle.fir_ast.specs.Types.{DataType}
use Rattle.fir_meaning.specs.LeafPaths.{Step, named, LeafPath}
use Rattle.fir_meaning.specs.TypeLeaves.{TypeLeaf, type_leaves}
use Rattle.fir_meaning.specs.Mentions.{type_mentions}
use Rattle.fir_meaning.specs.NameGroups.{faults_in}
use Rattle.fir_meaning.specs.TypedScopes.{Known, TypedScope}
use Rattle.fir_meaning.proofs.DistinctLeaves.{paths_distinct}
use Rattle.fir_meaning.specs.FoundTypes.{leaves_of_data}
use Rattle.fir_leaf.specs.working.LeafLaws.{known_paths, scope_paths, path_at, IsFine}

-- the paths of leaves behind one step
abbrev behind : Step → TypeLeaf → LeafPath
behind s l = s ∷ l.path

abbrev path_of : TypeLeaf → LeafPath
path_of l = l.path

behind_back : (s : Step) (ls : List TypeLeaf) (p : LeafPath) → In (map (behind s) ls) (s ∷ p) → In (map path_of ls) p
behind_back s [] p m = absurd m
behind_back s (l ∷ ls) p (inl e) = inl (cc)
behind_back s (l ∷ ls) p (inr m) = inr (behind_back s ls p m)

distinct_behind : (s : Step) (ls : List TypeLeaf) → Distinct (map path_of ls) → Distinct (map (behind s) ls)
distinct_behind s [] d = tt
distinct_behind s (l ∷ ls) d = (λ m. d.0 (behind_back s ls l.path m), distinct_behind s ls d.1)

-- of one declaration
distinct_known : (k : Known) → ((t : DataType) → k.data_type ≡ Some t → faults_in (type_mentions t) ≡ []) → Distinct (known_paths k)
distinct_known k h = by k.data_type h
  where
    by : (o : Option DataType) → ((t : DataType) → o ≡ Some t → faults_in (type_mentions t) ≡ [])
        → Distinct (map (λ l. named k.name ∷ l.path) (leaves_of_data o))
    by None f = tt
    by (Some t) f = distinct_behind (named k.name) (type_leaves t) (paths_distinct t (f t refl))

-- declarations of two names share no path
apart_known : (k : Known) (ks : TypedScope) (p : LeafPath) → In (known_paths k) p → In (flat_map known_paths ks) p → In (map (λ (x : Known). x.name) ks) k.name
apart_known k ks p a b =
    let other = in_flat_map_from known_paths ks p b in
    let here = in_map_from (λ (l : TypeLeaf). named k.name ∷ l.path) (leaves_of_data k.data_type) p a in
    let there = in_map_from (λ (l : TypeLeaf). named other.0.name ∷ l.path) (leaves_of_data other.0.data_type) p other.2 in
    let both : named other.0.name ∷ there.0.path ≡ named k.name ∷ here.0.path = there.2 ∙ sym here.2 in
    let same : other.0.name ≡ k.name = cc in
    subst (In (map (λ (x : Known). x.name) ks)) same (in_map (λ (x : Known). x.name) ks other.0 other.1)

distinct_from : (ks : TypedScope) → Distinct (map (λ (k : Known). k.name) ks)
    → ((k : Known) (t : DataType) → In ks k → k.data_type ≡ Some t → faults_in (type_mentions t) ≡ []) → Distinct (scope_paths ks)
distinct_from [] d h = tt
distinct_from (k ∷ ks) d h =
    distinct_joined (known_paths k) (flat_map known_paths ks) (distinct_known k (λ t e. h k t (inl refl) e)) (distinct_from ks d.1 (λ x t m e. h x t (inr m) e))
    (λ p a b. d.0 (apart_known k ks p a b))

pub distinct_paths : (scope : TypedScope) → IsFine scope → Distinct (scope_paths scope)
distinct_paths scope fine = distinct_from scope fine.names fine.fields

-- elements that stand once stand at one place
in_place : {A : Type 0} → (xs : List A) (i : ℕ) (d : A) → i < length xs → In xs (slice_index_or xs i d)
in_place [] i d lt = absurd (omega arith)
in_place (x ∷ xs) zero d lt = inl refl
in_place (x ∷ xs) (suc i) d lt = inr (in_place xs i d (omega arith))

once_placed : {A : Type 0} → (xs : List A) (d : A) (i j : ℕ) → Distinct xs → i < length xs → j < length xs
    → slice_index_or xs i d ≡ slice_index_or xs j d → i ≡ j
once_placed [] d i j h lt less e = absurd (omega arith)
once_placed (x ∷ xs) d zero zero h lt less e = refl
once_placed (x ∷ xs) d zero (suc j) h lt less e = absurd (h.0 (subst (In xs) (sym e) (in_place xs j d (omega arith))))
once_placed (x ∷ xs) d (suc i) zero h lt less e = absurd (h.0 (subst (In xs) e (in_place xs i d (omega arith))))
once_placed (x ∷ xs) d (suc i) (suc j) h lt less e = ap suc (once_placed xs d i j h.1 (omega arith) (omega arith) e)

pub path_once : (whole : TypedScope) (i j : ℕ) → IsFine whole → i < length (scope_paths whole) → j < length (scope_paths whole)
    → path_at whole i ≡ path_at whole j → i ≡ j
path_once whole i j fine lt less e = once_placed (scope_paths whole) [] i j (distinct_paths whole fine) lt less e
