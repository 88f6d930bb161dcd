-- The leaves of a module's ports: as many as an instance of it has, with their paths, and no when stands round them.
use Rattle.std.proofs.Common.{◌≡◌, ℕ, suc, ◌+◌, ◌<◌, ◌≤◌, List, [], ◌∷◌, ◌++◌, map, length, slice_get, Some, option_map, sym, ap, ◌∙◌, inl, inr, ⊎_elim, arith, length-append}
use Rattle.std.proofs.lemmas.List.{get_or_append_left, length-map}
use Rattle.std.proofs.lemmas.Option.{get_or_from_slice_get, slice_get-map}
use Rattle.std.proofs.Math.ListN.{get_or-map}
use Rattle.fir_base.specs.Lists.{In}
use Rattle.fir_base.proofs.Members.{in_either}
use Rattle.fir_ast.specs.declared.place.Place.{Place}
use Rattle.fir_ast.specs.Circuits.{PortTree, ModuleTree}
use Rattle.fir_meaning.specs.Components as component
use Rattle.fir_meaning.specs.ComponentTypes.{instance_bundle, known_as, port_fields}
use Rattle.fir_meaning.specs.TypeLeaves.{TypeLeaf, field_count, leaf_count, type_leaves}
use Rattle.fir_meaning.specs.TypedScopes.{TypedScope}
use Rattle.fir_meaning.specs.TypeGroup.{scope_at}
use Rattle.fir_meaning.specs.Visibility.{Before, at_head, behind_ports, declaration_at, with_declaration}
use Rattle.fir_meaning.proofs.KnownNames.{typed_more}
use Rattle.fir_meaning.specs.working.LeafModules.{LeafDeclared, Role, leaf_at, no_leaf}
use Rattle.fir_meaning.specs.LeafTypes.{LeafType}
use Rattle.fir_meaning.specs.ModuleScenes.{Declared, Scene, behind_all_ports, held_by_declared, type_of_declared}
use Rattle.fir_meaning.specs.working.LeafedModules.{leafed_module, leaves_from, leaves_in_block, leaves_of_ports, port_role}
use Rattle.fir_meaning.specs.FoundTypes.{leaves_of_data}
use Rattle.fir_leaf.proofs.LeafPlaces.{leaves_counted}
use Rattle.fir_leaf.proofs.OncePaths.{at_in}
use Rattle.fir_meaning.specs.working.Targets.{leaves_so_far}
use Rattle.fir_leaf.proofs.PortPaths.{same_ports}
use Rattle.fir_design.proofs.KnownDeclarations.{far_more}

from_depth : (d : Declared) (place : TypeLeaf → Place) (role_of : ℕ → TypeLeaf → Role) (k : ℕ) (ls : List TypeLeaf) (hs : List LeafType)
    (l : LeafDeclared)
    → In (leaves_from d place role_of k ls hs) l → l.depth ≡ d.before.depth
from_depth d place role_of k [] hs l i = absurd i
from_depth d place role_of k (x ∷ ls) [] l i = absurd i
from_depth d place role_of k (x ∷ ls) (h ∷ hs) l (inl e) = ap (λ (y : LeafDeclared). y.depth) (sym e)
from_depth d place role_of k (x ∷ ls) (h ∷ hs) l (inr i) = from_depth d place role_of (suc k) ls hs l i

ports_depth : (s : Scene) (ps : List PortTree) (before : Before) (l : LeafDeclared) → In (leaves_of_ports s before ps) l
    → l.depth ≡ before.depth
ports_depth s [] before l i = absurd i
ports_depth s (p ∷ ps) before l i =
    let d : Declared = record { named = p.named; component = component.port p.direction p.data_type; before = before } in
    let next = with_declaration before p.named (component.port p.direction p.data_type) in
    let first =
    leaves_from d (λ x. p.named.place) (λ k x. port_role p.direction x) 0 (leaves_of_data (type_of_declared s d)) (held_by_declared s d) in
    ⊎_elim
    (λ (j : In first l).
    from_depth d (λ x. p.named.place) (λ k x. port_role p.direction x) 0 (leaves_of_data (type_of_declared s d)) (held_by_declared s d) l j)
    (λ (j : In (leaves_of_ports s next ps) l). ports_depth s ps next l j) (in_either first (leaves_of_ports s next ps) l i)

-- what is known at the first statement of a module
abbrev pub port_scope : Scene → TypedScope
port_scope s = scope_at s.own.modules (behind_all_ports s.own.inside)

ports_far : (modules : List ModuleTree) (ps : List PortTree) (before : Before)
    → leaves_so_far (scope_at modules (behind_ports before ps)) ≡ leaves_so_far (scope_at modules before) + field_count (port_fields ps)
ports_far modules [] before = omega arith
ports_far modules (p ∷ ps) before =
    let c = component.port p.direction p.data_type in
    let scope = scope_at modules before in
    let d = declaration_at before p.named c in
    let one : leaves_so_far (scope_at modules (with_declaration before p.named c)) ≡ leaves_so_far scope + leaf_count p.data_type =
    ap leaves_so_far (typed_more modules [] before.declared d) ∙ far_more scope (known_as modules scope d) in
    omega (arith, ports_far modules ps (with_declaration before p.named c), one)

module _ (s : Scene) where
  abbrev ports : List LeafDeclared
  ports = leaves_of_ports s at_head s.own.inside.ports

  abbrev others : List LeafDeclared
  others = leaves_in_block s (behind_all_ports s.own.inside) s.own.inside.body

  pub ports_long : (leafed_module s).port_leaves ≡ leaf_count (instance_bundle s.own.inside)
  ports_long =
      let same : length (map (λ (l : TypeLeaf). l.path) (type_leaves (instance_bundle s.own.inside)))
      ≡ length (map (λ (l : LeafDeclared). l.path) ports) =
      ap length (same_ports s) in
      omega (
        arith,
        same,
        length-map (type_leaves (instance_bundle s.own.inside)) (λ (l : TypeLeaf). l.path),
        length-map ports (λ (l : LeafDeclared). l.path),
        leaves_counted (instance_bundle s.own.inside),
      )

  pub port_far : leaves_so_far (port_scope s) ≡ (leafed_module s).port_leaves
  port_far = omega (arith, ports_far s.own.modules s.own.inside.ports at_head, ports_long)

  pub ports_in : (leafed_module s).port_leaves ≤ length (leafed_module s).leaves
  ports_in = omega (arith, length-append ports others)

  pub port_path : (x : ℕ) (l : TypeLeaf) → slice_get (type_leaves (instance_bundle s.own.inside)) x ≡ Some l
      → x < (leafed_module s).port_leaves
      → (leaf_at (leafed_module s).leaves x).path ≡ l.path
  port_path x l e lt =
      let here : leaf_at (ports ++ others) x ≡ leaf_at ports x = get_or_append_left ports others no_leaf x lt in
      ap (λ (y : LeafDeclared). y.path) here ∙ sym (get_or-map (λ (y : LeafDeclared). y.path) ports x no_leaf)
      ∙ get_or_from_slice_get (map (λ (y : LeafDeclared). y.path) ports) x l.path []
      (ap (λ ps. slice_get ps x) (sym (same_ports s)) ∙ slice_get-map (λ (y : TypeLeaf). y.path) (type_leaves (instance_bundle s.own.inside)) x
      ∙ ap (option_map (λ (y : TypeLeaf). y.path)) e)

  pub port_depth : (x : ℕ) → x < (leafed_module s).port_leaves → (leaf_at (leafed_module s).leaves x).depth ≡ 0
  port_depth x lt =
      ap (λ (y : LeafDeclared). y.depth) (get_or_append_left ports others no_leaf x lt)
      ∙ ports_depth s s.own.inside.ports at_head (leaf_at ports x) (at_in ports no_leaf x lt)
