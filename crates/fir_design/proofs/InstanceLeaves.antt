-- A module holds the leaves of its instances' ports, each instance's among them and no others of its declaration.
use Rattle.std.proofs.Common.{◌≡◌, ℕ, ◌+◌, ◌<◌, ◌≤◌, ◌∷◌, ◌++◌, length, slice_get, Some, option_map, sym, ap, ◌∙◌, subst, arith}
use Rattle.std.proofs.lemmas.List.{length-map}
use Rattle.std.proofs.lemmas.Option.{same_Some, slice_get_within}
use Rattle.fir_base.specs.Lists.{In}
use Rattle.fir_base.proofs.Elements.{get_behind, there}
use Rattle.fir_base.proofs.Members.{in_map}
use Rattle.fir_ast.specs.Types.{DataType}
use Rattle.fir_ast.specs.Statements.{PlacedName}
use Rattle.fir_meaning.specs.Components.{Declaration}
use Rattle.fir_meaning.specs.ComponentTypes.{find_module, instance_bundle, known_as, typed_scope}
use Rattle.fir_meaning.specs.LeafPaths.{LeafPath, named}
use Rattle.fir_meaning.specs.TypedScopes.{Known, TypedScope}
use Rattle.fir_meaning.specs.TypeLeaves.{TypeLeaf, leaf_count, type_leaves}
use Rattle.fir_meaning.specs.Visibility.{declarations}
use Rattle.fir_meaning.specs.working.DesignPaths.{instance_name}
use Rattle.fir_leaf.specs.working.LeafLaws.{known_paths, path_at, scope_paths}
use Rattle.fir_meaning.specs.FoundTypes.{leaves_of_data}
use Rattle.fir_meaning.specs.working.LeafModules.{leaf_at}
use Rattle.fir_meaning.specs.ModuleScenes.{Scene}
use Rattle.fir_meaning.specs.working.LeafedModules.{leafed_module, module_leaves}
use Rattle.fir_leaf.specs.working.NamedDesigns.{IsOwnInstance, IsPortOf}
use Rattle.fir_leaf.specs.working.SoundDesigns.{IsHeld}
use Rattle.fir_leaf.specs.working.TableLaws.{IsLeafOf}
use Rattle.fir_meaning.specs.working.Targets.{leaves_so_far}
use Rattle.fir_leaf.proofs.LeafPlaces.{leaves_counted}
use Rattle.fir_leaf.proofs.OwnPaths.{path_once}
use Rattle.fir_design.proofs.DeclaredInstances.{IsDeclared, instance_within}
use Rattle.fir_design.proofs.FineScenes.{IsFineScene, leaf_is, leaf_path, leaves_long, whole_scope}
use Rattle.fir_design.proofs.HeldInstances.{Held}
use Rattle.fir_design.proofs.KnownDeclarations.{begins_short, known_behind, known_long}
use Rattle.fir_design.proofs.KnownLeaves.{known_there, leaf_there, leaves_within, one_known, one_there}
use Rattle.fir_design.proofs.OwnNames.{name_declared}
use Rattle.fir_design.proofs.PortLeaves.{port_depth, port_far, port_path, port_scope, ports_in, ports_long}

module _ (s : Scene) (f : IsFineScene s) (h : Held) (d : IsDeclared s.own.modules (port_scope s) (declarations s.own.inside) h) (child : Scene)
    (same : child.own.inside ≡ d.child) (found : find_module s.own.modules d.module_name ≡ Some d.child) where
  abbrev front : TypedScope
  front = typed_scope s.own.modules d.front

  abbrev own : Declaration
  own = instance_within d.named d.module_name h.depth

  abbrev k : Known
  k = known_as s.own.modules front own

  abbrev t : DataType
  t = instance_bundle child.own.inside

  abbrev rest : (rest : TypedScope) × (front ++ k ∷ rest ≡ typed_scope s.own.modules (d.front ++ own ∷ d.more))
  rest = known_behind s.own.modules d.front own d.more

  whole_is : front ++ k ∷ rest.0 ≡ whole_scope s
  whole_is = rest.1 ∙ ap (typed_scope s.own.modules) d.is

  type_is : k.data_type ≡ Some t
  type_is = ap (option_map instance_bundle) found ∙ ap (λ m. Some (instance_bundle m)) (sym same)

  declared_there : slice_get (declarations s.own.inside) h.own.declaration ≡ Some own
  declared_there =
      ap (slice_get (declarations s.own.inside)) d.declaration ∙ ap (λ ds. slice_get ds (length d.front)) (sym d.is)
      ∙ get_behind d.front d.more own

  instance_known : slice_get (whole_scope s) h.own.declaration ≡ Some k
  instance_known =
      ap (λ scope. slice_get scope h.own.declaration) (sym whole_is)
      ∙ ap (slice_get (front ++ k ∷ rest.0)) (d.declaration ∙ sym (known_long s.own.modules d.front)) ∙ known_there front k rest.0 t type_is

  name_is : instance_name (leafed_module s) h.own ≡ d.named.name
  name_is = ap (λ (n : PlacedName). n.name) (name_declared (declarations s.own.inside) h.own.declaration own declared_there)

  all_within : h.own.first + leaf_count t ≤ length (module_leaves s)
  all_within =
      let long : length (scope_paths (front ++ k ∷ rest.0)) ≡ length (scope_paths (whole_scope s)) =
      ap (λ scope. length (scope_paths scope)) whole_is in
      omega (arith, leaves_within front k rest.0 t type_is, long, leaves_long s f, d.first)

  -- the leaf of a number
  path_there : (x : ℕ) (l : TypeLeaf) → slice_get (type_leaves t) x ≡ Some l
      → (leaf_at (module_leaves s) (h.own.first + x)).path ≡ named d.named.name ∷ l.path
  path_there x l e =
      leaf_path s f (h.own.first + x) ∙ ap (λ scope. path_at scope (h.own.first + x)) (sym whole_is)
      ∙ ap (λ n. path_at (front ++ k ∷ rest.0) (n + x)) d.first ∙ leaf_there front k rest.0 t type_is x l e

  port_there : (x : ℕ) → x < leaf_count t → (l : TypeLeaf) × (slice_get (type_leaves t) x ≡ Some l)
  port_there x lt = there (type_leaves t) x (omega (arith, lt, leaves_counted t))

  is_port : (x : ℕ) → x < length (module_leaves s) → (leaf_at (module_leaves s) x).declaration ≡ h.own.declaration
      → IsPortOf h.own (leafed_module child) x
  is_port x lt e =
      let is : IsLeafOf (whole_scope s) (declarations s.own.inside) (leaf_at (module_leaves s) x) = leaf_is s f x lt in
      let known : is.known ≡ k =
      same_Some is.known k (sym is.is_known ∙ ap (slice_get (whole_scope s)) e ∙ instance_known) in
      let among : In (known_paths is.known) (named is.known.name ∷ is.leaf.path) =
      in_map (λ (l : TypeLeaf). named is.known.name ∷ l.path) (leaves_of_data is.known.data_type) is.leaf is.among in
      let mine : In (known_paths k) (leaf_at (module_leaves s) x).path =
      subst (λ (j : Known). In (known_paths j) (leaf_at (module_leaves s) x).path) known
      (subst (In (known_paths is.known)) (sym is.path) among) in
      let one = one_there front k rest.0 t type_is (leaf_at (module_leaves s) x).path mine in
      let there : path_at (whole_scope s) (leaves_so_far front + one.0) ≡ (leaf_at (module_leaves s) x).path =
      ap (λ scope. path_at scope (leaves_so_far front + one.0)) (sym whole_is) ∙ one.2 in
      let here : x ≡ leaves_so_far front + one.0 =
      path_once (whole_scope s) x (leaves_so_far front + one.0) f.fine (omega (arith, lt, leaves_long s f))
      (omega (arith, one.1, all_within, leaves_long s f, d.first)) (sym (leaf_path s f x) ∙ sym there) in
      record { port = one.0; within = omega (arith, one.1, ports_long child); is = omega (arith, here, d.first) }

  pub own_instance : IsOwnInstance (leafed_module s) h.own (leafed_module child)
  own_instance = record {
    declared =
        let within = slice_get_within (declarations s.own.inside) h.own.declaration own declared_there in
        omega (arith, within, length-map (declarations s.own.inside) (λ (y : Declaration). y.named));
    leaves = is_port;
  }

  deep : (x : ℕ) → x < leaf_count t → (leaf_at (module_leaves s) (h.own.first + x)).depth ≡ h.depth
  deep x lt =
      let y = h.own.first + x in
      let l = port_there x lt in
      let is : IsLeafOf (whole_scope s) (declarations s.own.inside) (leaf_at (module_leaves s) y) = leaf_is s f y (omega (arith, lt, all_within)) in
      let firsts : named is.known.name ∷ is.leaf.path ≡ named d.named.name ∷ l.0.path = sym is.path ∙ path_there x l.0 l.1 in
      let name : is.known.name ≡ k.name = cc in
      let place : (leaf_at (module_leaves s) y).declaration ≡ h.own.declaration =
      one_known (whole_scope s) f.fine (leaf_at (module_leaves s) y).declaration h.own.declaration is.known k is.is_known instance_known name in
      let declared : is.declared ≡ own =
      same_Some is.declared own (sym is.is_declared ∙ ap (slice_get (declarations s.own.inside)) place ∙ declared_there) in
      is.depth ∙ ap (λ (z : Declaration). z.depth) declared

  same_path : (x : ℕ) (l : TypeLeaf) → slice_get (type_leaves t) x ≡ Some l → x < (leafed_module child).port_leaves
      → (leaf_at (module_leaves s) (h.own.first + x)).path
      ≡ named (instance_name (leafed_module s) h.own) ∷ (leaf_at (module_leaves child) x).path
  same_path x l e lt =
      path_there x l e ∙ ap (λ n. named n ∷ l.path) (sym name_is)
      ∙ ap (λ (p : LeafPath). named (instance_name (leafed_module s) h.own) ∷ p) (sym (port_path child x l e lt))

  pub held_instance : IsHeld (leafed_module s) h.depth h.own (leafed_module child)
  held_instance = record {
    ports = ports_in child;
    own = omega (arith, begins_short (port_scope s) front d.begins, port_far s, d.first);
    within = omega (arith, all_within, ports_long child);
    path = λ x lt. let l = port_there x (omega (arith, lt, ports_long child)) in same_path x l.0 l.1 lt;
    depth = λ x lt. deep x (omega (arith, lt, ports_long child)) ∙ (let none = port_depth child x lt in omega (arith, none));
  }
