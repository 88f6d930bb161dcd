-- What instances have to themselves (FIRRTL spec, "Instances", "Modules").
-- All that an instance has stands below its own path: its leaves, the words of its state, its arrays, and the leaves at which its statements store. So of two
-- instances of different names, wherever they stand, nothing is one. The whens round an instance condition nothing in it.
use Rattle.std.specs.Prelude.{◌≡◌, ℕ, List, [], ◌∷◌, ◌++◌, Bool, if◌then◌else◌, Option, Some, None}
use Rattle.std.specs.Str.{bytes_eq}
use Rattle.fir_base.specs.Lists.{In}
use Rattle.fir_ast.specs.declared.place.Place.{Place}
use Rattle.fir_ast.specs.Statements.{PlacedName, instance}
use Rattle.fir_meaning.specs.LeafPaths.{LeafPath, named}
use Rattle.fir_meaning.specs.Visibility.{Before}
use Rattle.fir_meaning.specs.PathStores.{DesignStore}
use Rattle.fir_meaning.specs.ModuleScenes.{Scene}
use Rattle.fir_meaning.specs.SourceCircuits.{PlacedArray, PlacedLeaf, array_order_of_design, array_path, arrays_of_design, leaf_path, leaves_of_design, words_of_design}
use Rattle.fir_meaning.specs.SourceDesigns.{Instances, SourceDesign, held, no_instances}
use Rattle.fir_meaning.specs.SourceStores.{Gifts, exec_design, exec_instances}
use Rattle.fir_meaning.specs.TreeValues.{TypesByPath, ValuesByPath}
use Rattle.fir_source_laws.specs.working.TreeStatements.{IsBelow, TellsByLeaf, exec_in}

-- the paths that a design of the instance at a path has: of leaves, of words of the state, of arrays, and of arrays of the state
pub data HasPath (at : LeafPath) (d : SourceDesign) (x : LeafPath) : Type 0 where
  of_leaf : (p : PlacedLeaf) → In (leaves_of_design at d) p → leaf_path p ≡ x → HasPath at d x
  of_word : (p : PlacedLeaf) → In (words_of_design at d) p → leaf_path p ≡ x → HasPath at d x
  of_array : (p : PlacedArray) → In (arrays_of_design at d) p → array_path p ≡ x → HasPath at d x
  of_stored_array : (p : PlacedArray) → In (array_order_of_design at d) p → array_path p ≡ x → HasPath at d x

-- instances of two names in one instance, or what they hold within, have no path in common
abbrev pub InstancesShareNothing : Type 0
InstancesShareNothing =
    (common inner other : LeafPath) (one two : List ℕ) (d e : SourceDesign) (x : LeafPath) → (one ≡ two → ⊥)
    → HasPath (common ++ named one ∷ inner) d x → HasPath (common ++ named two ∷ other) e x → ⊥

-- statements of an instance store below its path alone, whether it is told by its design or by its name in the module that holds it
abbrev pub InstancesStoreBelowOf : Type 0 → Type 0
InstancesStoreBelowOf V =
    (holds : TypesByPath) (env : ValuesByPath) (gifts : LeafPath → Gifts V) (at : LeafPath) (store : DesignStore V) (x : LeafPath)
    → ((d : SourceDesign) → (IsBelow at x → ⊥) → exec_design holds env gifts at d store x ≡ store x)
    × ((is : Instances) (name : List ℕ) → (IsBelow (at ++ named name ∷ []) x → ⊥) → exec_instances holds env gifts at is name store x ≡ store x)

abbrev pub InstancesStoreBelow : Type 0
InstancesStoreBelow = InstancesStoreBelowOf ℕ × InstancesStoreBelowOf (Option ℕ)

-- what they store at a leaf hangs on no store at another
abbrev pub InstancesTellByLeafOf : Type 0 → Type 0
InstancesTellByLeafOf V =
    (holds : TypesByPath) (env : ValuesByPath) (gifts : LeafPath → Gifts V) (at : LeafPath)
    → ((d : SourceDesign) → TellsByLeaf (exec_design holds env gifts at d))
    × ((is : Instances) (name : List ℕ) → TellsByLeaf (exec_instances holds env gifts at is name))

abbrev pub InstancesTellByLeaf : Type 0
InstancesTellByLeaf = InstancesTellByLeafOf ℕ × InstancesTellByLeafOf (Option ℕ)

-- the design below the instance of a name
abbrev pub design_named : Instances → List ℕ → Option SourceDesign
design_named no_instances name = None
design_named (held x d rest) name = if bytes_eq x name then Some d else design_named rest name

-- a statement that declares an instance stores what the design of the instance stores, whatever whens stand round it
abbrev pub InstancesCountNoWhenOf : Type 0 → Type 0
InstancesCountNoWhenOf V =
    (s : Scene) (holds : TypesByPath) (env : ValuesByPath) (gifts : LeafPath → Gifts V) (path : LeafPath) (is : Instances)
    (before : Before) (p : Place) (n other : PlacedName) (taken : List Bool) (store : DesignStore V) (d : SourceDesign)
    → design_named is n.name ≡ Some d
    → exec_in s holds env gifts path is before (instance p n other) taken store
    ≡ exec_design holds env gifts (path ++ named n.name ∷ []) d store

abbrev pub InstancesCountNoWhen : Type 0
InstancesCountNoWhen = InstancesCountNoWhenOf ℕ × InstancesCountNoWhenOf (Option ℕ)
