-- Where the leaves of a declaration stand among those of all that are declared: behind those of the declarations before it.
use Rattle.std.proofs.Common.{◌≡◌, ℕ, ◌+◌, ◌≤◌, List, [], ◌∷◌, ◌++◌, Bool, true, false, length, slice_get, refl, ap, ◌∙◌, arith, length-append, Option, Some, None, if◌then◌else◌}
use Rattle.std.specs.Str.{bytes_eq}
use Rattle.std.proofs.lemmas.List.{length-map}
use Rattle.std.proofs.lemmas.List.Concat.{flat_map-append}
use Rattle.std.proofs.lemmas.Option.{get_or_from_slice_get}
use Rattle.fir_ast.specs.Types.{DataType}
use Rattle.fir_meaning.specs.Costs.{leaves_where}
use Rattle.fir_meaning.specs.LeafPaths.{LeafPath, named}
use Rattle.fir_meaning.specs.Reaching.{Reached, known_reached}
use Rattle.fir_meaning.specs.ResetJoins.{type_of_known}
use Rattle.fir_meaning.specs.TypeLeaves.{TypeLeaf, type_leaves, leaf_count}
use Rattle.fir_meaning.specs.TypedScopes.{Known, TypedScope, known}
use Rattle.fir_base.proofs.SameNames.{name_is}
use Rattle.fir_leaf.specs.working.LeafLaws.{known_paths, scope_paths, path_at, Begins}
use Rattle.fir_meaning.specs.FoundTypes.{leaves_of_data}
use Rattle.fir_meaning.specs.working.Targets.{leaves_ahead}
use Rattle.fir_leaf.proofs.LeafPlaces.{get_left, get_right, get_mapped, leaves_counted}

abbrev path_below : List ℕ → TypeLeaf → LeafPath
path_below name l = named name ∷ l.path

data_counted : (t : Option DataType) → length (leaves_of_data t) ≡ leaves_where t
data_counted None = refl
data_counted (Some t) = leaves_counted t

pub known_counted : (k : Known) → length (known_paths k) ≡ leaves_where k.data_type
known_counted k = length-map (leaves_of_data k.data_type) (path_below k.name) ∙ data_counted k.data_type

-- a leaf of what a name stands for
pub named_at : (scope : TypedScope) (name : List ℕ) (t : DataType) → type_of_known (known scope name) ≡ Some t
    → (j : ℕ) (l : TypeLeaf) → slice_get (type_leaves t) j ≡ Some l → slice_get (scope_paths scope) (leaves_ahead scope name + j) ≡ Some (named name ∷ l.path)
named_at [] name t h j l e = absurd (cc)
named_at (k ∷ ks) name t h j l e = by (bytes_eq k.name name) refl h (λ m. named_at ks name t m j l e)
  where
    by : (b : Bool) → bytes_eq k.name name ≡ b → type_of_known (if b then Some k else known ks name) ≡ Some t
        → (type_of_known (known ks name) ≡ Some t → slice_get (scope_paths ks) (leaves_ahead ks name + j) ≡ Some (named name ∷ l.path))
        → slice_get (known_paths k ++ scope_paths ks) ((if b then 0 else leaves_where k.data_type + leaves_ahead ks name) + j) ≡ Some (named name ∷ l.path)
    by true same h more =
        let none : 0 + j ≡ j = omega arith in
        let mine : slice_get (leaves_of_data k.data_type) j ≡ Some l = rw h e in
        rw (none, ← name_is k.name name same)
        (get_left (known_paths k) (scope_paths ks) j (named k.name ∷ l.path) (get_mapped (path_below k.name) (leaves_of_data k.data_type) j l mine))
    by false other h more =
        let far : (leaves_where k.data_type + leaves_ahead ks name) + j ≡ leaves_where k.data_type + (leaves_ahead ks name + j) = omega arith in
        rw far
        (get_right (known_paths k) (scope_paths ks) (leaves_where k.data_type) (leaves_ahead ks name + j) (known_counted k) ∙ more h)

pub named_within : (scope : TypedScope) (name : List ℕ) (t : DataType) → type_of_known (known scope name) ≡ Some t
    → leaves_ahead scope name + leaf_count t ≤ length (scope_paths scope)
named_within [] name t h = absurd (cc)
named_within (k ∷ ks) name t h = by (bytes_eq k.name name) refl h (named_within ks name t)
  where
    by : (b : Bool) → bytes_eq k.name name ≡ b → type_of_known (if b then Some k else known ks name) ≡ Some t
        → (type_of_known (known ks name) ≡ Some t → leaves_ahead ks name + leaf_count t ≤ length (scope_paths ks))
        → (if b then 0 else leaves_where k.data_type + leaves_ahead ks name) + leaf_count t ≤ length (known_paths k ++ scope_paths ks)
    by true same h more =
        let mine : leaves_where k.data_type ≡ leaf_count t = ap leaves_where h in
        omega (arith, mine, known_counted k, length-append (known_paths k) (scope_paths ks))
    by false other h more = omega (arith, more h, known_counted k, length-append (known_paths k) (scope_paths ks))

pub paths_joined : (scope more : TypedScope) → scope_paths (scope ++ more) ≡ scope_paths scope ++ scope_paths more
paths_joined scope more = flat_map-append known_paths scope more

-- the same of a scope that goes on
pub path_of_named : (scope whole : TypedScope) (name : List ℕ) (t : DataType) → Begins scope whole → type_of_known (known scope name) ≡ Some t
    → (j : ℕ) (l : TypeLeaf) → slice_get (type_leaves t) j ≡ Some l → path_at whole (leaves_ahead scope name + j) ≡ named name ∷ l.path
path_of_named scope whole name t b h j l e =
    rw (← b.1, paths_joined scope b.0)
    (get_or_from_slice_get (scope_paths scope ++ scope_paths b.0) (leaves_ahead scope name + j) (named name ∷ l.path) []
    (get_left (scope_paths scope) (scope_paths b.0) (leaves_ahead scope name + j) (named name ∷ l.path) (named_at scope name t h j l e)))

pub named_in_whole : (scope whole : TypedScope) (name : List ℕ) (t : DataType) → Begins scope whole → type_of_known (known scope name) ≡ Some t
    → leaves_ahead scope name + leaf_count t ≤ length (scope_paths whole)
named_in_whole scope whole name t b h =
    rw (← b.1, paths_joined scope b.0) (omega (arith, named_within scope name t h, length-append (scope_paths scope) (scope_paths b.0)))

-- what a reference begins with has the type of its name
pub reached_type : (o : Option Known) (begins : Reached) → known_reached o ≡ Some begins → type_of_known o ≡ Some begins.data_type
reached_type None begins h = absurd (cc)
reached_type (Some k) begins h = by k.data_type refl
  where
    by : (t : Option DataType) → k.data_type ≡ t → k.data_type ≡ Some begins.data_type
    by None e = let none : None ≡ Some begins = rw e at h in absurd (cc)
    by (Some t) e =
        let some : Some (record { data_type = t; flow = k.flow; path = Some (named k.name ∷ []) }) ≡ Some begins = rw e at h in
        let is : record { data_type = t; flow = k.flow; path = Some (named k.name ∷ []) } ≡ begins = cc in
        e ∙ ap (λ (r : Reached). Some r.data_type) is
