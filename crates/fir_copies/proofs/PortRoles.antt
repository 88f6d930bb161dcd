-- A leaf of a port is a source or a sink.
use Rattle.std.proofs.Common.{◌≡◌, ℕ, suc, ◌<◌, List, [], ◌∷◌, Bool, true, false, if◌then◌else◌, refl, sym, subst, inl, inr, ◌⊎◌}
use Rattle.std.specs.List.{AllByRecursion}
use Rattle.std.proofs.lemmas.List.{get_or_append_left}
use Rattle.fir_base.specs.declared.direction.Direction.{Direction}
use Rattle.fir_base.proofs.Each.{all_at, all_joined}
use Rattle.fir_ast.specs.declared.place.Place.{Place}
use Rattle.fir_ast.specs.Circuits.{PortTree}
use Rattle.fir_meaning.specs.Components as component
use Rattle.fir_meaning.specs.Flows.{flow_under, is_source, port_flow}
use Rattle.fir_meaning.specs.FoundTypes.{leaves_of_data}
use Rattle.fir_meaning.specs.LeafTypes.{LeafType}
use Rattle.fir_meaning.specs.ModuleScenes.{Declared, Scene, held_by_declared, type_of_declared}
use Rattle.fir_meaning.specs.TypeLeaves.{TypeLeaf}
use Rattle.fir_meaning.specs.Visibility.{Before, at_head, with_declaration}
use Rattle.fir_meaning.specs.working.LeafedModules.{leafed_module, leaves_from, leaves_of_ports, module_leaves, own_leaves, port_role}
use Rattle.fir_meaning.specs.working.LeafModules.{LeafDeclared, Role, leaf_at, no_leaf, role_at, sink, source}
use Rattle.fir_leaf.proofs.OncePaths.{at_in}

-- it is the one or the other
abbrev pub IsPortRole : Role → Type 0
IsPortRole r = (r ≡ source) ⊎ (r ≡ sink)

abbrev ArePorts : List LeafDeclared → Type 0
ArePorts = AllByRecursion (λ (l : LeafDeclared). IsPortRole l.role)

one_role : (d : Direction) (l : TypeLeaf) → IsPortRole (port_role d l)
one_role d l = by (is_source (flow_under l.flip (port_flow d)))
  where
    by : (b : Bool) → IsPortRole (if b then source else sink)
    by true = inl refl
    by false = inr refl

from_roles : (d : Declared) (place : TypeLeaf → Place) (dir : Direction) (k : ℕ) (ls : List TypeLeaf) (hs : List LeafType)
    → AllByRecursion (λ (l : LeafDeclared). IsPortRole l.role) (leaves_from d place (λ x l. port_role dir l) k ls hs)
from_roles d place dir k [] hs = tt
from_roles d place dir k (l ∷ ls) [] = tt
from_roles d place dir k (l ∷ ls) (h ∷ hs) = (one_role dir l, from_roles d place dir (suc k) ls hs)

all_roles : (s : Scene) (ps : List PortTree) (before : Before) → AllByRecursion (λ (l : LeafDeclared). IsPortRole l.role) (leaves_of_ports s before ps)
all_roles s [] before = tt
all_roles s (p ∷ ps) before =
    let c = component.port p.direction p.data_type in
    let d : Declared = record { named = p.named; component = c; before = before } in
    let next = with_declaration before p.named c in
    all_joined (λ (l : LeafDeclared). IsPortRole l.role) (own_leaves s before p.named c (λ k l. port_role p.direction l)) (leaves_of_ports s next ps)
    (from_roles d (λ l. p.named.place) p.direction 0 (leaves_of_data (type_of_declared s d)) (held_by_declared s d)) (all_roles s ps next)

pub port_role_is : (s : Scene) (z : ℕ) → z < (leafed_module s).port_leaves → IsPortRole (role_at (leafed_module s) z)
port_role_is s z lt =
    let ports = leaves_of_ports s at_head s.own.inside.ports in
    let here : leaf_at (module_leaves s) z ≡ leaf_at ports z = get_or_append_left ports _ no_leaf z lt in
    subst (λ (l : LeafDeclared). IsPortRole l.role) (sym here)
    (all_at (λ (l : LeafDeclared). IsPortRole l.role) ports (all_roles s s.own.inside.ports at_head) (leaf_at ports z) (at_in ports no_leaf z lt))
