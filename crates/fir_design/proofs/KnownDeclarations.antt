-- What is known of declarations: as many as are declared, under the same names, each behind those before it.
use Rattle.std.proofs.Common.{◌≡◌, ℕ, ◌+◌, ◌≤◌, List, [], ◌∷◌, ◌++◌, map, length, slice_get, Some, refl, sym, ap, ◌∙◌, append_assoc, arith, length-append, option_map}
use Rattle.std.proofs.lemmas.List.{map-append, append-nil}
use Rattle.std.proofs.lemmas.Option.{same_Some, slice_get-map}
use Rattle.fir_ast.specs.Circuits.{ModuleTree}
use Rattle.fir_meaning.specs.Components.{Declaration, Declarations}
use Rattle.fir_meaning.specs.Costs.{leaves_where}
use Rattle.fir_meaning.specs.TypedScopes.{Known, TypedScope}
use Rattle.fir_meaning.specs.ComponentTypes.{known_as, typed_behind, typed_scope}
use Rattle.fir_leaf.specs.working.LeafLaws.{Begins, scope_paths}
use Rattle.fir_meaning.specs.working.Targets.{leaves_so_far}
use Rattle.fir_leaf.proofs.NamedPlaces.{known_counted, paths_joined}
use Rattle.fir_leaf.specs.working.LeafLaws.{known_paths}

typed_long : (modules : List ModuleTree) (scope : TypedScope) (ds : Declarations)
    → length (typed_behind modules scope ds) ≡ length scope + length ds
typed_long modules scope [] = omega arith
typed_long modules scope (d ∷ ds) =
    let k = known_as modules scope d in omega (arith, typed_long modules (scope ++ k ∷ []) ds, length-append scope (k ∷ []))

pub known_long : (modules : List ModuleTree) (ds : Declarations) → length (typed_scope modules ds) ≡ length ds
known_long modules ds = omega (arith, typed_long modules [] ds)

typed_names : (modules : List ModuleTree) (scope : TypedScope) (ds : Declarations)
    → map (λ (k : Known). k.name) (typed_behind modules scope ds)
    ≡ map (λ (k : Known). k.name) scope ++ map (λ (d : Declaration). d.named.name) ds
typed_names modules scope [] = sym (append-nil (map (λ (k : Known). k.name) scope))
typed_names modules scope (d ∷ ds) =
    let k = known_as modules scope d in
    let later = map (λ (x : Declaration). x.named.name) ds in
    typed_names modules (scope ++ k ∷ []) ds ∙ ap (λ ns. ns ++ later) (map-append (λ (x : Known). x.name) scope (k ∷ []))
    ∙ append_assoc (map (λ (x : Known). x.name) scope) (d.named.name ∷ []) later

pub known_names : (modules : List ModuleTree) (ds : Declarations)
    → map (λ (k : Known). k.name) (typed_scope modules ds) ≡ map (λ (d : Declaration). d.named.name) ds
known_names modules ds = typed_names modules [] ds

-- the same at one place
pub same_name : (modules : List ModuleTree) (ds : Declarations) (x : ℕ) (k : Known) (d : Declaration)
    → slice_get (typed_scope modules ds) x ≡ Some k
    → slice_get ds x ≡ Some d → k.name ≡ d.named.name
same_name modules ds x k d known declared =
    same_Some k.name d.named.name
    (ap (option_map (λ (y : Known). y.name)) (sym known) ∙ sym (slice_get-map (λ (y : Known). y.name) (typed_scope modules ds) x)
    ∙ ap (λ ns. slice_get ns x) (known_names modules ds) ∙ slice_get-map (λ (y : Declaration). y.named.name) ds x
    ∙ ap (option_map (λ (y : Declaration). y.named.name)) declared)

-- behind a declaration its scope goes on
typed_on : (modules : List ModuleTree) (scope : TypedScope) (ds : Declarations) → Begins scope (typed_behind modules scope ds)
typed_on modules scope [] = ([], append-nil scope)
typed_on modules scope (d ∷ ds) =
    let k = known_as modules scope d in
    let more = typed_on modules (scope ++ k ∷ []) ds in
    (k ∷ more.0, sym (append_assoc scope (k ∷ []) more.0) ∙ more.1)

typed_parts : (modules : List ModuleTree) (scope : TypedScope) (ds es : Declarations)
    → typed_behind modules scope (ds ++ es) ≡ typed_behind modules (typed_behind modules scope ds) es
typed_parts modules scope [] es = refl
typed_parts modules scope (d ∷ ds) es = typed_parts modules (scope ++ known_as modules scope d ∷ []) ds es

pub known_behind : (modules : List ModuleTree) (ds : Declarations) (d : Declaration) (more : Declarations)
    → (rest : TypedScope)
    × (typed_scope modules ds ++ known_as modules (typed_scope modules ds) d ∷ rest ≡ typed_scope modules (ds ++ d ∷ more))
known_behind modules ds d more =
    let k = known_as modules (typed_scope modules ds) d in
    let rest = typed_on modules (typed_scope modules ds ++ k ∷ []) more in
    (rest.0, sym (append_assoc (typed_scope modules ds) (k ∷ []) rest.0) ∙ rest.1 ∙ sym (typed_parts modules [] ds (d ∷ more)))

-- as many leaves are declared as there are paths
pub far_counted : (scope : TypedScope) → leaves_so_far scope ≡ length (scope_paths scope)
far_counted [] = refl
far_counted (k ∷ ks) = omega (arith, known_counted k, far_counted ks, length-append (known_paths k) (scope_paths ks))

pub far_more : (scope : TypedScope) (k : Known) → leaves_so_far (scope ++ k ∷ []) ≡ leaves_so_far scope + leaves_where k.data_type
far_more [] k = omega arith
far_more (x ∷ scope) k = omega (arith, far_more scope k)

pub begins_short : (scope whole : TypedScope) → Begins scope whole → leaves_so_far scope ≤ leaves_so_far whole
begins_short scope whole b =
    let all : length (scope_paths whole) ≡ length (scope_paths scope ++ scope_paths b.0) =
    ap (λ s. length (scope_paths s)) (sym b.1) ∙ ap length (paths_joined scope b.0) in
    omega (arith, far_counted scope, far_counted whole, all, length-append (scope_paths scope) (scope_paths b.0))
