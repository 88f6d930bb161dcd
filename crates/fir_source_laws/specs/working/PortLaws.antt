-- An instance's port and the port of its module (FIRRTL spec, "Instances", "Ports", "References").
-- They are one leaf: what names a port within an instance and what names it from the module that holds the instance have one path from the main module on, and
-- one value. So what is stored at a port, from outside or from within, is what both sides read of it.
use Rattle.std.specs.Prelude.{◌≡◌, ℕ, List, [], ◌∷◌, ◌++◌, if◌then◌else◌, Option, Some, None, option_map}
use Rattle.std.specs.Str.{bytes_eq}
use Rattle.fir_base.specs.Lists.{In}
use Rattle.fir_base.specs.Ticks.{Tick}
use Rattle.fir_bits.specs.declared.types.NumTy.{NumTy}
use Rattle.fir_ast.specs.declared.place.Place.{Place}
use Rattle.fir_ast.specs.Circuits.{ModuleTree, PortTree}
use Rattle.fir_ast.specs.Expressions.{Parts, no_parts, reference, subaccess, subfield, subindex}
use Rattle.fir_ast.specs.Statements.{SinkReference}
use Rattle.fir_meaning.specs.Components as component
use Rattle.fir_meaning.specs.Components.{Declaration, Declarations, find}
use Rattle.fir_meaning.specs.ComponentTypes.{find_module}
use Rattle.fir_meaning.specs.LeafPaths.{LeafPath, named}
use Rattle.fir_meaning.specs.TypeGroup.{scope_at}
use Rattle.fir_meaning.specs.TypedScopes.{TypedScope}
use Rattle.fir_meaning.specs.Visibility.{Before}
use Rattle.fir_meaning.specs.LeafTypes.{number}
use Rattle.fir_meaning.specs.ModuleScenes.{behind_all_ports}
use Rattle.fir_meaning.specs.TreeValues.{TypesByPath, ValuesByPath, aim_of, leaf_where, value}
use Rattle.fir_meaning.specs.SourceAllows.{Settled}
use Rattle.fir_meaning.specs.SourceCircuits.{PlacedLeaf, all_leaves, leaf_path}
use Rattle.fir_meaning.specs.SourceDesigns.{SourceDesign}
use Rattle.fir_meaning.specs.SourceRoles.{sink}
use Rattle.fir_meaning.specs.SourceStores.{below}
use Rattle.fir_meaning.specs.SourceValues.{PathEnv, number_stored, value_at}

-- the first port of a name
abbrev pub port_named : List PortTree → List ℕ → Option PortTree
port_named [] name = None
port_named (p ∷ ps) name = if bytes_eq p.named.name name then Some p else port_named ps name

-- at a place of one module an instance of another is declared; at a place of that one, behind its ports, a port
pub record IsPortOf (modules : List ModuleTree) (outside within : Before) (instance_name port_name : List ℕ) : Type 0 where
  pub other : ModuleTree
  pub declared : Declaration
  pub is_declared : find outside.declared instance_name ≡ Some declared
  pub is_instance : declared.component ≡ component.instance other.named.name
  pub is_module : find_module modules other.named.name ≡ Some other
  pub more : Declarations
  pub behind_ports : within.declared ≡ (behind_all_ports other).declared ++ more
  pub port : PortTree
  pub is_port : port_named other.ports port_name ≡ Some port

-- parts with no dynamic index
abbrev pub IsStatic : Parts → Type 0
IsStatic no_parts = Unit {0}
IsStatic (subfield first p x rest) = IsStatic rest
IsStatic (subindex first p i rest) = IsStatic rest
IsStatic (subaccess first e rest) = ⊥

-- the leaf that a sink names in the module of the instance at a path, by its path from the main module on
abbrev pub leaf_named : LeafPath → TypedScope → TypesByPath → ValuesByPath → SinkReference → LeafPath → Option LeafPath
leaf_named at scope holds env d q = option_map (λ x. at ++ x) (leaf_where (aim_of scope (below at holds) (below at env) d).at q)

abbrev pub PortsAreOne : Type 0
PortsAreOne =
    (modules : List ModuleTree) (outside within : Before) (i p : List ℕ) (holds : TypesByPath) (env : ValuesByPath) (at : LeafPath)
    (here there dot stands : Place) (parts : Parts) (q : LeafPath)
    → IsPortOf modules outside within i p → IsStatic parts
    → (value (scope_at modules within) (below (at ++ named i ∷ []) holds) (below (at ++ named i ∷ []) env) (reference here p parts) q
    ≡ value (scope_at modules outside) (below at holds) (below at env) (reference there i (subfield dot stands p parts)) q)
    × (leaf_named (at ++ named i ∷ []) (scope_at modules within) holds env (record { place = here; name = p; parts = parts }) q
    ≡ leaf_named at (scope_at modules outside) holds env (record { place = there; name = i; parts = subfield dot stands p parts }) q)

-- where values are settled, a port that is driven, from either side, reads as what is stored at it
abbrev pub PortsReadAsStored : Type 0
PortsReadAsStored =
    (t : SourceDesign) (state : List ℕ) (tick : Tick) (env : PathEnv) (leaf : PlacedLeaf) (h : NumTy) (modules : List ModuleTree) (outside within : Before)
    (i p : List ℕ) (at : LeafPath) (here there dot stands : Place) (q : LeafPath)
    → Settled t state tick env → In (all_leaves t) leaf → leaf.leaf.role ≡ sink → leaf.leaf.holds ≡ number h
    → leaf_path leaf ≡ at ++ named i ∷ named p ∷ q → IsPortOf modules outside within i p
    → (number_stored t env (at ++ named i ∷ named p ∷ q)
    ≡ Some (value_at t env (at ++ named i ∷ []) (scope_at modules within) (reference here p no_parts) q).value.number)
    × (number_stored t env (at ++ named i ∷ named p ∷ q)
    ≡ Some (value_at t env at (scope_at modules outside) (reference there i (subfield dot stands p no_parts)) q).value.number)
