-- What the statements of the code's modules store, and that it is what the statements of the tree store (FIRRTL spec, "Connects", "Conditionals").
use Rattle.std.specs.Prelude.{◌≡◌, ℕ, ◌<◌, List, [], length, Some, None, slice_get}
use Rattle.fir_ast.specs.Circuits.{CircuitTree}
use Rattle.fir_leaf.specs.working.ChoiceLaws.{fitted_at}
use Rattle.fir_meaning.specs.working.LeafBlocks.{exec_all, nothing_stored}
use Rattle.fir_meaning.specs.working.LeafModules.{LeafDeclared, leaf_at}
use Rattle.fir_meaning.specs.LeafTypes.{number_type}
use Rattle.fir_meaning.specs.ModuleScenes.{Scene, behind_all_ports}
use Rattle.fir_meaning.specs.working.LeafedModules.{module_leaves}
use Rattle.fir_leaf.specs.working.NodeBlocks.{block_in}
use Rattle.fir_leaf.specs.working.TableLaws.{table_facts}
use Rattle.fir_meaning.specs.working.TermValues.{Holds}
use Rattle.fir_meaning.specs.working.TreeStores.{exec_tree_all}
use Rattle.fir_meaning.specs.TreeValues.{ValuesByPath}
use Rattle.fir_leaf_circuit.specs.declared.leaf_module.LeafModule.{LeafModule}
use Rattle.fir_meaning.specs.Scenes.{IsSceneOf}
use Rattle.fir_leaf_circuit.specs.working.Seen.{leaves_seen}

-- the leaf of a number, as the code has it
abbrev pub leaf_of_code : LeafModule → ℕ → LeafDeclared
leaf_of_code m x = leaf_at (leaves_seen m.nodes.items m.leaves.items) x

abbrev pub holds_in : LeafModule → Holds
holds_in m x = number_type (leaf_of_code m x).holds

abbrev pub depth_in : LeafModule → ℕ → ℕ
depth_in m x = (leaf_of_code m x).depth

-- the values of paths, by the numbers of leaves
abbrev pub values_of : Scene → ValuesByPath → ℕ → ℕ
values_of s env x = env (leaf_at (module_leaves s) x).path

-- for all values the statements of each module of the code store at every leaf what the tree's statements store at its path, and nothing where these store
-- nothing
abbrev pub StoreAsTheirTrees : CircuitTree → List LeafModule → Type 0
StoreAsTheirTrees c ms =
    (module_number : ℕ) (m : LeafModule) (s : Scene) (env : ValuesByPath) (k : ℕ) → slice_get ms module_number ≡ Some m → IsSceneOf c module_number s
    → k < length m.leaves.items
    → exec_all (holds_in m) (depth_in m) (values_of s env) (fitted_at (holds_in m) (values_of s env)) (block_in m.nodes.items m.body.items) [] nothing_stored k
    ≡ exec_tree_all (table_facts (module_leaves s)) env c.modules (behind_all_ports s.own.inside) s.own.inside.body [] (λ x. None)
    (leaf_at (module_leaves s) k).path
