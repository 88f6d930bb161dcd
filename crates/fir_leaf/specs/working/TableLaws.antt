-- Laws about the table of a module's leaves: its numbers are those of the laws by path, and its statements store by them what the tree's statements store.
use Rattle.std.specs.Prelude.{◌≡◌, ℕ, ◌<◌, List, [], ◌∷◌, map, length, Bool, true, false, not, ◌&&◌, if◌then◌else◌, Some, None, slice_get}
use Rattle.fir_base.specs.Lists.{In}
use Rattle.fir_ast.specs.Circuits.{CircuitTree}
use Rattle.fir_meaning.specs.LeafPaths.{LeafPath, named}
use Rattle.fir_meaning.specs.TypeLeaves.{TypeLeaf}
use Rattle.fir_meaning.specs.Flows.{flow_under, is_source}
use Rattle.fir_meaning.specs.Components as component
use Rattle.fir_meaning.specs.Components.{Component, Declaration, Declarations}
use Rattle.fir_meaning.specs.TypedScopes.{Known, TypedScope}
use Rattle.fir_meaning.specs.working.NameGroups.{HasNames}
use Rattle.fir_meaning.specs.TypeGroup.{type_faults}
use Rattle.fir_meaning.specs.ComponentTypes.{typed_scope}
use Rattle.fir_meaning.specs.Visibility.{declarations}
use Rattle.fir_meaning.specs.SizedDeclarations.{numbered_modules}
use Rattle.fir_meaning.specs.working.TermValues.{Holds}
use Rattle.fir_meaning.specs.working.LeafBlocks.{exec_all, nothing_stored}
use Rattle.fir_leaf.specs.working.ChoiceLaws.{fitted_at}
use Rattle.fir_meaning.specs.working.LeafModules.{LeafDeclared, LeafModule, depth_at, is_sink, leaf_at, may_drive, no_leaf}
use Rattle.fir_meaning.specs.LeafTypes.{number_type}
use Rattle.fir_meaning.specs.ModuleScenes.{Scene, behind_all_ports}
use Rattle.fir_meaning.specs.working.LeafedModules.{leafed_module, module_leaves}
use Rattle.fir_meaning.specs.FoundTypes.{leaves_of_data}
use Rattle.fir_leaf.specs.working.LeafNumbers.{BlockWithin}
use Rattle.fir_meaning.specs.TreeValues.{ValuesByPath}
use Rattle.fir_meaning.specs.working.TreeStores.{LeafFacts, exec_tree_all}
use Rattle.fir_meaning.specs.SamePaths.{same_path}
use Rattle.fir_leaf.specs.working.LeafLaws.{scope_paths}

-- the leaves of a module have the paths of all leaves that it declares, in order
abbrev pub LeavesAreDeclared : Type 0
LeavesAreDeclared =
    (c : CircuitTree) (s : Scene) → In (numbered_modules c) s.own
    → map (λ (l : LeafDeclared). l.path) (module_leaves s) ≡ scope_paths (typed_scope c.modules (declarations s.own.inside))

-- each number that stands in the statements of a module is that of one of its leaves
abbrev pub NumbersAreLeaves : Type 0
NumbersAreLeaves =
    (c : CircuitTree) (s : Scene) → HasNames c → type_faults c ≡ [] → In (numbered_modules c) s.own
    → BlockWithin (length (module_leaves s)) (leafed_module s).body

-- facts by path that say of each leaf what the table does
pub record SayTheTable (leaves : List LeafDeclared) (facts : LeafFacts) : Type 0 where
  pub holds : (k : ℕ) → k < length leaves → facts.holds (leaf_at leaves k).path ≡ number_type (leaf_at leaves k).holds
  pub depth : (k : ℕ) → k < length leaves → facts.depth (leaf_at leaves k).path ≡ (leaf_at leaves k).depth
  pub may_drive : (k : ℕ) → k < length leaves → facts.may_drive (leaf_at leaves k).path ≡ may_drive (leaf_at leaves k).role

-- those of the table itself, where each leaf is found by its path
abbrev pub leaf_on : List LeafDeclared → LeafPath → LeafDeclared
leaf_on [] path = no_leaf
leaf_on (l ∷ ls) path = if same_path l.path path then l else leaf_on ls path

abbrev pub table_facts : List LeafDeclared → LeafFacts
table_facts leaves = record {
  holds = λ path. number_type (leaf_on leaves path).holds;
  depth = λ path. (leaf_on leaves path).depth;
  may_drive = λ path. may_drive (leaf_on leaves path).role;
}

-- so there are such facts, since each leaf has its own path
abbrev pub TableHasFacts : Type 0
TableHasFacts =
    (c : CircuitTree) (s : Scene) → HasNames c → type_faults c ≡ [] → In (numbered_modules c) s.own
    → SayTheTable (module_leaves s) (table_facts (module_leaves s))

abbrev pub table_holds : LeafModule → Holds
table_holds m x = number_type (leaf_at m.leaves x).holds

-- the values of paths, by the numbers of leaves
abbrev pub table_values : LeafModule → ValuesByPath → ℕ → ℕ
table_values m env x = env (leaf_at m.leaves x).path

-- for all values the statements of a module's view store at the number of each of its leaves what the tree's statements store at the leaf's path
abbrev pub TableStores : Type 0
TableStores =
    (c : CircuitTree) (s : Scene) (facts : LeafFacts) (env : ValuesByPath) → HasNames c → type_faults c ≡ [] → In (numbered_modules c) s.own
    → SayTheTable (module_leaves s) facts → (k : ℕ) → k < length (module_leaves s)
    → exec_all (table_holds (leafed_module s)) (depth_at (leafed_module s)) (table_values (leafed_module s) env)
    (fitted_at (table_holds (leafed_module s)) (table_values (leafed_module s) env)) (leafed_module s).body [] nothing_stored k
    ≡ exec_tree_all facts env c.modules (behind_all_ports s.own.inside) s.own.inside.body [] (λ x. None) (leaf_at (module_leaves s) k).path

abbrev pub is_register : Component → Bool
is_register (component.register t) = true
is_register _ = false

-- a leaf in the table and the declaration that it is of: it is one of the leaves of its type, behind its name; as many whens stand round both; and statements
-- may drive it exactly where it is no source, and must then, but for registers
pub record IsLeafOf (scope : TypedScope) (ds : Declarations) (l : LeafDeclared) : Type 0 where
  pub declared : Declaration
  pub known : Known
  pub leaf : TypeLeaf
  pub is_declared : slice_get ds l.declaration ≡ Some declared
  pub is_known : slice_get scope l.declaration ≡ Some known
  pub among : In (leaves_of_data known.data_type) leaf
  pub path : l.path ≡ named known.name ∷ leaf.path
  pub depth : l.depth ≡ declared.depth
  pub drives : may_drive l.role ≡ not (is_source (flow_under leaf.flip known.flow))
  pub sinks : is_sink l.role ≡ (not (is_source (flow_under leaf.flip known.flow)) && not (is_register declared.component))

-- each leaf of a module is so
abbrev pub LeavesFollowTypes : Type 0
LeavesFollowTypes =
    (c : CircuitTree) (s : Scene) → HasNames c → type_faults c ≡ [] → In (numbered_modules c) s.own → (l : LeafDeclared) → In (module_leaves s) l
    → IsLeafOf (typed_scope c.modules (declarations s.own.inside)) (declarations s.own.inside) l
