-- What the declarations of a module say of a leaf, by its path in the module: how many whens stand round its declaration, whether statements may drive it, and
-- where it stands (FIRRTL spec, "Conditional Scopes", "Flow").
use Rattle.std.specs.Prelude.{ℕ, zero, List, [], ◌∷◌, not, Bool, false, if◌then◌else◌, Option, Some, None}
use Rattle.fir_ast.specs.declared.place.Place.{Place}
use Rattle.fir_ast.specs.Circuits.{ModuleTree, PortTree}
use Rattle.fir_meaning.specs.LeafPaths.{LeafPath, named}
use Rattle.fir_meaning.specs.Components.{Component, Declaration, find, instance}
use Rattle.fir_meaning.specs.ResetJoins.{numbered_module, port_place}
use Rattle.fir_meaning.specs.ComponentTypes.{typed_scope}
use Rattle.fir_meaning.specs.Flows.{Flow, flow_under, is_source}
use Rattle.fir_meaning.specs.TypeLeaves.{TypeLeaf}
use Rattle.fir_meaning.specs.TypedScopes.{Known, known}
use Rattle.fir_meaning.specs.Visibility.{declarations}
use Rattle.fir_meaning.specs.FoundTypes.{leaves_of_data}
use Rattle.fir_meaning.specs.ModuleScenes.{Scene}
use Rattle.fir_meaning.specs.SamePaths.{same_path}

abbrev pub depth_of : Option Declaration → ℕ
depth_of None = zero
depth_of (Some d) = d.depth

abbrev pub source_depth : Scene → LeafPath → ℕ
source_depth s (named x ∷ path) = depth_of (find (declarations s.own.inside) x)
source_depth s _ = zero

-- whether a leaf of a type is flipped, by its path
abbrev pub flip_on : List TypeLeaf → LeafPath → Option Bool
flip_on [] path = None
flip_on (l ∷ ls) path = if same_path l.path path then Some l.flip else flip_on ls path

abbrev pub driven_under : Flow → Option Bool → Bool
driven_under flow None = false
driven_under flow (Some flip) = not (is_source (flow_under flip flow))

abbrev pub driven_of : Option Known → LeafPath → Bool
driven_of None path = false
driven_of (Some k) path = driven_under k.flow (flip_on (leaves_of_data k.data_type) path)

abbrev pub source_may_drive : Scene → LeafPath → Bool
source_may_drive s (named x ∷ path) = driven_of (known (typed_scope s.own.modules (declarations s.own.inside)) x) path
source_may_drive s _ = false

abbrev pub ports_of_child : Option (ℕ × ModuleTree) → List PortTree
ports_of_child None = []
ports_of_child (Some child) = child.1.ports

-- a leaf of an instance that is driven within it stands at the port of its module, any other at its declaration
abbrev pub place_of_leaf : List ModuleTree → Bool → Place → Component → LeafPath → Place
place_of_leaf modules is_driven p (instance other) path =
    if is_driven then p else port_place p (ports_of_child (numbered_module 0 modules other)) path
place_of_leaf modules is_driven p c path = p

abbrev pub no_place : Place
no_place = record { line = 0; col = 0 }

abbrev pub place_where : List ModuleTree → Bool → Option Declaration → LeafPath → Place
place_where modules is_driven None path = no_place
place_where modules is_driven (Some d) path = place_of_leaf modules is_driven d.named.place d.component path

abbrev pub source_place : Scene → LeafPath → Place
source_place s (named x ∷ path) =
    place_where s.own.modules (source_may_drive s (named x ∷ path)) (find (declarations s.own.inside) x) path
source_place s _ = no_place
