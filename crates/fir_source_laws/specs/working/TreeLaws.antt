-- What the tree of a circuit's modules has of each instance (FIRRTL spec, "Instances", "Modules").
-- The leaves of an instance's ports are leaves of the tree, each driven; so are the leaves of its module, and the words of its state and its arrays are among
-- those of the state.
use Rattle.std.specs.Prelude.{◌≡◌, ◌⊎◌, ℕ, [], ◌∷◌, ◌++◌, Some, slice_get}
use Rattle.fir_base.specs.Lists.{In}
use Rattle.fir_ast.specs.declared.place.Place.{Place}
use Rattle.fir_ast.specs.Circuits.{ModuleTree}
use Rattle.fir_ast.specs.Statements.{Block, PlacedName, Statement, done, instance, then, when}
use Rattle.fir_meaning.specs.ComponentTypes.{find_module, instance_bundle}
use Rattle.fir_meaning.specs.Components as component
use Rattle.fir_meaning.specs.LeafTypes.{LeafType}
use Rattle.fir_meaning.specs.LeafPaths.{LeafPath, named}
use Rattle.fir_meaning.specs.ModuleScenes.{Scene, behind_all_ports, held_by_declared}
use Rattle.fir_meaning.specs.SourceCircuits.{PlacedArray, PlacedLeaf, array_order_of_design, arrays_of_design, leaves_of_design, words_of_design}
use Rattle.fir_meaning.specs.SourceDesigns.{Instances, SourceDesign, made_of}
use Rattle.fir_meaning.specs.SourceRoles.{sink}
use Rattle.fir_meaning.specs.TypeLeaves.{TypeLeaf, type_leaves}
use Rattle.fir_meaning.specs.Visibility.{Before, behind, behind_block, opened, reopened}
use Rattle.fir_source_laws.specs.working.InstanceLaws.{design_named}

-- a statement stands at a place of a block, in whens or in none
module _ (place : Before) (x : Statement) where
  abbrev pub IsHere : Before → Statement → Type 0
  IsHere before y = (before ≡ place) × (y ≡ x)

  abbrev mutual
    pub StandsWithin : Before → Statement → Type 0
    StandsWithin before (when p c a b) = StandsInBlock (opened before) a ⊎ StandsInBlock (reopened before (behind_block (opened before) a)) b
    StandsWithin before _ = ⊥

    pub StandsInBlock : Before → Block → Type 0
    StandsInBlock before done = ⊥
    StandsInBlock before ((then) y b) = (IsHere before y ⊎ StandsWithin before y) ⊎ StandsInBlock (behind before y) b

-- an instance is declared in the body of a module
abbrev pub IsInBody : Scene → Before → Place → PlacedName → PlacedName → Type 0
IsInBody s place p n other = StandsInBlock place (instance p n other) (behind_all_ports s.own.inside) s.own.inside.body

-- each leaf of its module's ports, with what it holds
abbrev pub PortsAreLeaves : Type 0
PortsAreLeaves =
    (s : Scene) (is : Instances) (at : LeafPath) (place : Before) (p : Place) (n other : PlacedName) (m : ModuleTree) (k : ℕ) (l : TypeLeaf) (h : LeafType)
    → IsInBody s place p n other → find_module s.own.modules other.name ≡ Some m → slice_get (type_leaves (instance_bundle m)) k ≡ Some l
    → slice_get (held_by_declared s (record { named = n; component = component.instance other.name; before = place })) k ≡ Some h
    → In (leaves_of_design at (made_of s is)) (record { at = at; leaf = record { path = named n.name ∷ l.path; holds = h; role = sink } })

-- what the design of an instance has the design of the module has that holds it
abbrev pub TreesHaveTheirInstances : Type 0
TreesHaveTheirInstances =
    (s : Scene) (is : Instances) (at : LeafPath) (place : Before) (p : Place) (n other : PlacedName) (d : SourceDesign)
    → IsInBody s place p n other → design_named is n.name ≡ Some d
    → ((l : PlacedLeaf) → In (leaves_of_design (at ++ named n.name ∷ []) d) l → In (leaves_of_design at (made_of s is)) l)
    × ((l : PlacedLeaf) → In (words_of_design (at ++ named n.name ∷ []) d) l → In (words_of_design at (made_of s is)) l)
    × ((a : PlacedArray) → In (arrays_of_design (at ++ named n.name ∷ []) d) a → In (arrays_of_design at (made_of s is)) a)
    × ((a : PlacedArray) → In (array_order_of_design (at ++ named n.name ∷ []) d) a → In (array_order_of_design at (made_of s is)) a)
