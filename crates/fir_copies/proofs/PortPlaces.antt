-- The leaf of a port stands where the port of its name is declared, and so does what an instance gives in the module that holds the instance.
use Rattle.std.proofs.Common.{◌≡◌, ℕ, suc, ◌<◌, List, [], ◌∷◌, ◌++◌, length, Bool, true, false, Some, refl, sym, ap, ◌∙◌, subst, append_assoc, append-nil, inl, inr, arith}
use Rattle.std.specs.Str.{bytes_eq}
use Rattle.std.specs.List.{AllByRecursion}
use Rattle.std.proofs.lemmas.List.{get_or_append_left}
use Rattle.fir_base.specs.Lists.{Distinct, In}
use Rattle.fir_base.proofs.Each.{all_at, all_joined}
use Rattle.fir_base.proofs.SameNames.{name_same}
use Rattle.fir_ast.specs.declared.place.Place.{Place}
use Rattle.fir_ast.specs.Circuits.{ModuleTree, PortTree}
use Rattle.fir_ast.specs.Statements.{PlacedName}
use Rattle.fir_meaning.specs.Components.{Component, Declaration, Declarations, find}
use Rattle.fir_meaning.specs.Components as component
use Rattle.fir_meaning.specs.FoundTypes.{leaves_of_data}
use Rattle.fir_meaning.specs.LeafPaths.{LeafPath, named}
use Rattle.fir_meaning.specs.LeafTypes.{LeafType}
use Rattle.fir_meaning.specs.ModuleScenes.{Declared, Scene, behind_all_ports, held_by_declared, type_of_declared}
use Rattle.fir_meaning.specs.ResetJoins.{numbered_module, port_place}
use Rattle.fir_meaning.specs.SourceFacts.{place_of_leaf, ports_of_child, place_where, source_may_drive, source_place}
use Rattle.fir_meaning.specs.TypeLeaves.{TypeLeaf}
use Rattle.fir_meaning.specs.Visibility.{Before, at_head, behind_ports, declaration_at, declarations, with_declaration}
use Rattle.fir_meaning.specs.working.LeafedModules.{leafed_module, leaves_from, leaves_of_ports, module_leaves, own_leaves, port_role}
use Rattle.fir_meaning.specs.working.LeafModules.{LeafDeclared, leaf_at, may_drive, no_leaf, role_at, source}
use Rattle.fir_meaning.proofs.FoundDeclarations.{Once, once_found}
use Rattle.fir_leaf.proofs.OncePaths.{at_in}
use Rattle.fir_design.proofs.DeclaredInstances.{Grows, instance_within}
use Rattle.fir_design.proofs.FineScenes.{IsFineScene, leaf_path}
use Rattle.fir_design.proofs.KnownDeclarations.{known_names}
use Rattle.fir_design.proofs.PortLeaves.{ports_in}
use Rattle.fir_design.proofs.SourceInstances.{grows_before}
use Rattle.fir_design.proofs.SourceLeaves.{source_may_drive_is}
use Rattle.fir_source_faults.specs.working.ReadsByPath.{path_in}
use Rattle.fir_source_faults.proofs.DeclaredPlaces.{source_place_is}

abbrev component_of : PortTree → Component
component_of p = component.port p.direction p.data_type

-- a leaf of one of these ports, by its path
record IsOfPort (ps : List PortTree) (l : LeafDeclared) : Type 0 where
  port : PortTree
  among : In ps port
  rest : LeafPath
  path : l.path ≡ named port.named.name ∷ rest

of_more : (p : PortTree) (ps : List PortTree) (ls : List LeafDeclared) → AllByRecursion (IsOfPort ps) ls → AllByRecursion (IsOfPort (p ∷ ps)) ls
of_more p ps [] a = tt
of_more p ps (l ∷ ls) a = (record { port = a.0.port; among = inr a.0.among; rest = a.0.rest; path = a.0.path }, of_more p ps ls a.1)

from_port : (p : PortTree) (ps : List PortTree) (before : Before) (k : ℕ) (ls : List TypeLeaf) (hs : List LeafType)
    → AllByRecursion (IsOfPort (p ∷ ps))
    (leaves_from (record { named = p.named; component = component_of p; before = before }) (λ l. p.named.place) (λ x l. port_role p.direction l) k ls hs)
from_port p ps before k [] hs = tt
from_port p ps before k (l ∷ ls) [] = tt
from_port p ps before k (l ∷ ls) (h ∷ hs) =
    (record { port = p; among = inl refl; rest = l.path; path = refl }, from_port p ps before (suc k) ls hs)

of_ports : (s : Scene) (ps : List PortTree) (before : Before) → AllByRecursion (IsOfPort ps) (leaves_of_ports s before ps)
of_ports s [] before = tt
of_ports s (p ∷ ps) before =
    let d : Declared = record { named = p.named; component = component_of p; before = before } in
    let next = with_declaration before p.named (component_of p) in
    all_joined (IsOfPort (p ∷ ps)) (own_leaves s before p.named (component_of p) (λ k l. port_role p.direction l)) (leaves_of_ports s next ps)
    (from_port p ps before 0 (leaves_of_data (type_of_declared s d)) (held_by_declared s d))
    (of_more p ps (leaves_of_ports s next ps) (of_ports s ps next))

-- what ports declare
abbrev declared_by : Before → List PortTree → Declarations
declared_by before [] = []
declared_by before (p ∷ ps) = declaration_at before p.named (component_of p) ∷ declared_by (with_declaration before p.named (component_of p)) ps

all_declared : (ps : List PortTree) (before : Before) → (behind_ports before ps).declared ≡ before.declared ++ declared_by before ps
all_declared [] before = sym (append-nil before.declared)
all_declared (p ∷ ps) before =
    let d = declaration_at before p.named (component_of p) in
    let next = with_declaration before p.named (component_of p) in
    all_declared ps next ∙ append_assoc before.declared (d ∷ []) (declared_by next ps)

-- the declaration that is found for the name of a port
record IsFound (modules : List ModuleTree) (ps : List PortTree) (ds : Declarations) (name : List ℕ) : Type 0 where
  declared : Declaration
  is : find ds name ≡ Some declared
  place :
      (b : Bool) (p : Place) (rest : LeafPath)
      → place_of_leaf modules b declared.named.place declared.component rest ≡ port_place p ps (named name ∷ rest)

found_port : (modules : List ModuleTree) (ps : List PortTree) (before : Before) (more : Declarations) (q : PortTree) → In ps q
    → IsFound modules ps (declared_by before ps ++ more) q.named.name
found_port modules [] before more q m = absurd m
found_port modules (p ∷ ps) before more q m =
    by (bytes_eq p.named.name q.named.name) refl m (λ i. found_port modules ps (with_declaration before p.named (component_of p)) more q i)
  where
    by : (b : Bool) → bytes_eq p.named.name q.named.name ≡ b → In (p ∷ ps) q
        → (In ps q → IsFound modules ps (declared_by (with_declaration before p.named (component_of p)) ps ++ more) q.named.name)
        → IsFound modules (p ∷ ps) (declared_by before (p ∷ ps) ++ more) q.named.name
    by true e m later =
        record { declared = declaration_at before p.named (component_of p); is = rw e refl; place = λ b at rest. rw e refl }
    by false e (inl same) later =
        let own : bytes_eq p.named.name p.named.name ≡ false = ap (λ (x : PortTree). bytes_eq p.named.name x.named.name) same ∙ e in
        let never : true ≡ false = sym (name_same p.named.name) ∙ own in
        absurd (cc)
    by false e (inr i) later =
        let r = later i in
        record { declared = r.declared; is = rw e r.is; place = λ b at rest. rw e (r.place b at rest) }

module _ (s : Scene) (f : IsFineScene s) where
  all_grow : Grows (behind_all_ports s.own.inside).declared (declarations s.own.inside)
  all_grow = grows_before (behind_all_ports s.own.inside) s.own.inside.body (declarations s.own.inside) ([], append-nil (declarations s.own.inside))

  pub port_stands : (z : ℕ) → z < (leafed_module s).port_leaves → (p : Place)
      → (leaf_at (module_leaves s) z).place ≡ port_place p s.own.inside.ports (path_in s z)
  port_stands z lt p =
      let ps = s.own.inside.ports in
      let ports = leaves_of_ports s at_head ps in
      let modules = s.own.modules in
      let here : leaf_at (module_leaves s) z ≡ leaf_at ports z = get_or_append_left ports _ no_leaf z lt in
      let o = all_at (IsOfPort ps) ports (of_ports s ps at_head) (leaf_at ports z) (at_in ports no_leaf z lt) in
      let path : path_in s z ≡ named o.port.named.name ∷ o.rest = ap (λ (l : LeafDeclared). l.path) here ∙ o.path in
      let whole : declared_by at_head ps ++ all_grow.0 ≡ declarations s.own.inside =
      ap (λ ds. ds ++ all_grow.0) (sym (all_declared ps at_head)) ∙ all_grow.1 in
      let r = found_port modules ps at_head all_grow.0 o.port o.among in
      let there : find (declarations s.own.inside) o.port.named.name ≡ Some r.declared =
      ap (λ ds. find ds o.port.named.name) (sym whole) ∙ r.is in
      let b = source_may_drive s (named o.port.named.name ∷ o.rest) in
      let within : z < length (module_leaves s) = omega (arith, lt, ports_in s) in
      sym (source_place_is s f z within) ∙ ap (source_place s) path ∙ ap (λ d. place_where modules b d o.rest) there ∙ r.place b p o.rest
      ∙ ap (port_place p ps) (sym path)

  -- a source among the leaves of an instance
  pub given_stands : (n : PlacedName) (name : List ℕ) (depth : ℕ) (child : ℕ × ModuleTree) → In (declarations s.own.inside) (instance_within n name depth)
      → numbered_module 0 s.own.modules name ≡ Some child → (y : ℕ) → y < length (module_leaves s) → (rest : LeafPath)
      → path_in s y ≡ named n.name ∷ rest → role_at (leafed_module s) y ≡ source
      → (leaf_at (module_leaves s) y).place ≡ port_place n.place child.1.ports rest
  given_stands n name depth child among found y lt rest path is =
      let all = declarations s.own.inside in
      let once : Once all = record { once = subst Distinct (known_names s.own.modules all) f.fine.names } in
      let not_driven : source_may_drive s (named n.name ∷ rest) ≡ false =
      ap (source_may_drive s) (sym path ∙ leaf_path s f y) ∙ source_may_drive_is s f y lt ∙ ap may_drive is in
      sym (source_place_is s f y lt) ∙ ap (source_place s) path
      ∙ ap (λ b. place_where s.own.modules b (find all n.name) rest) not_driven
      ∙ ap (λ o. place_where s.own.modules false o rest) (once_found all once (instance_within n name depth) among)
      ∙ ap (λ o. port_place n.place (ports_of_child o) rest) found
