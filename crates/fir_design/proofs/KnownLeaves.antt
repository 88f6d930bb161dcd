-- Where the leaves of one declaration stand among those of all: behind those of the declarations before it, and nowhere else.
use Rattle.std.proofs.Common.{◌≡◌, ℕ, zero, suc, ◌+◌, ◌<◌, ◌≤◌, List, [], ◌∷◌, ◌++◌, map, length, slice_get, Some, option_map, refl, sym, ap, ◌∙◌, arith, length-append}
use Rattle.std.proofs.lemmas.Option.{get_or_from_slice_get, none-some, slice_get-map, slice_get_within}
use Rattle.fir_base.specs.Lists.{In, Distinct}
use Rattle.fir_base.proofs.Elements.{get_behind, get_in, number_of}
use Rattle.fir_ast.specs.Types.{DataType}
use Rattle.fir_meaning.specs.LeafPaths.{LeafPath, named}
use Rattle.fir_meaning.specs.TypedScopes.{Known, TypedScope}
use Rattle.fir_meaning.specs.TypeLeaves.{TypeLeaf, leaf_count, type_leaves}
use Rattle.fir_meaning.specs.Costs.{leaves_where}
use Rattle.fir_leaf.specs.working.LeafLaws.{IsFine, known_paths, path_at, scope_paths}
use Rattle.fir_meaning.specs.FoundTypes.{leaves_of_data}
use Rattle.fir_meaning.specs.working.Targets.{leaves_so_far}
use Rattle.fir_leaf.proofs.LeafPlaces.{get_left, get_mapped, get_right}
use Rattle.fir_leaf.proofs.NamedPlaces.{known_counted, paths_joined}
use Rattle.fir_design.proofs.KnownDeclarations.{far_counted}

module _ (front : TypedScope) (k : Known) (rest : TypedScope) (t : DataType) (is : k.data_type ≡ Some t) where
  abbrev whole : TypedScope
  whole = front ++ k ∷ rest

  paths_are : scope_paths (front ++ k ∷ rest) ≡ scope_paths front ++ (known_paths k ++ scope_paths rest)
  paths_are = paths_joined front (k ∷ rest)

  path_there : (x : ℕ) (p : LeafPath) → slice_get (known_paths k) x ≡ Some p → path_at (front ++ k ∷ rest) (leaves_so_far front + x) ≡ p
  path_there x p e =
      get_or_from_slice_get (scope_paths whole) (leaves_so_far front + x) p []
      (ap (λ ps. slice_get ps (leaves_so_far front + x)) paths_are
      ∙ get_right (scope_paths front) (known_paths k ++ scope_paths rest) (leaves_so_far front) x (sym (far_counted front))
      ∙ get_left (known_paths k) (scope_paths rest) x p e)

  pub leaf_there : (x : ℕ) (l : TypeLeaf) → slice_get (type_leaves t) x ≡ Some l
      → path_at (front ++ k ∷ rest) (leaves_so_far front + x) ≡ named k.name ∷ l.path
  leaf_there x l e =
      path_there x (named k.name ∷ l.path)
      (get_mapped (λ (y : TypeLeaf). named k.name ∷ y.path) (leaves_of_data k.data_type) x l (ap (λ o. slice_get (leaves_of_data o) x) is ∙ e))

  pub leaves_within : leaves_so_far front + leaf_count t ≤ length (scope_paths (front ++ k ∷ rest))
  leaves_within =
      let long : length (scope_paths whole) ≡ length (scope_paths front ++ (known_paths k ++ scope_paths rest)) = ap length paths_are in
      let many : leaves_where k.data_type ≡ leaf_count t = ap leaves_where is in
      omega (
        arith,
        long,
        many,
        far_counted front,
        known_counted k,
        length-append (scope_paths front) (known_paths k ++ scope_paths rest),
        length-append (known_paths k) (scope_paths rest),
      )

  pub known_there : slice_get (front ++ k ∷ rest) (length front) ≡ Some k
  known_there = get_behind front rest k

  -- each of its paths is that of one of them
  pub one_there : (p : LeafPath) → In (known_paths k) p
      → (x : ℕ) × (x < leaf_count t) × (path_at (front ++ k ∷ rest) (leaves_so_far front + x) ≡ p)
  one_there p among =
      let x = number_of (known_paths k) p among in
      let many : leaves_where k.data_type ≡ leaf_count t = ap leaves_where is in
      let within = slice_get_within (known_paths k) x.0 p x.1 in
      (x.0, omega (arith, within, known_counted k, many), path_there x.0 p x.1)

-- an element that stands once stands at one place
one_place : {A : Type 0} (xs : List A) → Distinct xs → (i j : ℕ) (x : A) → slice_get xs i ≡ Some x → slice_get xs j ≡ Some x → i ≡ j
one_place [] d i j x a b = absurd (none-some x a)
one_place (y ∷ ys) d zero zero x a b = refl
one_place (y ∷ ys) d zero (suc j) x a b = absurd (d.0 (get_in ys j y (b ∙ sym a)))
one_place (y ∷ ys) d (suc i) zero x a b = absurd (d.0 (get_in ys i y (a ∙ sym b)))
one_place (y ∷ ys) d (suc i) (suc j) x a b = ap suc (one_place ys d.1 i j x a b)

-- no two declarations have one name
pub one_known : (scope : TypedScope) → IsFine scope → (x y : ℕ) (j k : Known) → slice_get scope x ≡ Some j
    → slice_get scope y ≡ Some k → j.name ≡ k.name → x ≡ y
one_known scope fine x y j k ex ey e =
    let names = map (λ (z : Known). z.name) scope in
    one_place names fine.names x y j.name
    (slice_get-map (λ (z : Known). z.name) scope x ∙ ap (option_map (λ (z : Known). z.name)) ex)
    (slice_get-map (λ (z : Known). z.name) scope y ∙ ap (option_map (λ (z : Known). z.name)) ey ∙ ap Some (sym e))
