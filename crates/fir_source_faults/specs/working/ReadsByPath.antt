-- What the terms of a module read, and which leaves its targets name, is by paths what expressions read and references name (FIRRTL spec, "References",
-- "Sub-accesses", "Expressions").
use Rattle.std.specs.Prelude.{◌≡◌, ℕ, ◌+◌, ◌<◌, List, [], length, map, Option, Some, None, slice_get}
use Rattle.std.specs.List.{AllByRecursion}
use Rattle.fir_base.specs.Lists.{In}
use Rattle.fir_ast.specs.Circuits.{CircuitTree}
use Rattle.fir_ast.specs.Expressions.{Expression}
use Rattle.fir_ast.specs.Statements.{SinkReference}
use Rattle.fir_ast.specs.Types.{DataType}
use Rattle.fir_meaning.specs.ComponentTypes.{typed_scope}
use Rattle.fir_meaning.specs.working.LeafModules.{leaf_at}
use Rattle.fir_meaning.specs.LeafPaths.{LeafPath}
use Rattle.fir_meaning.specs.working.Leafed.{target_of, terms}
use Rattle.fir_meaning.specs.working.LeafedBlocks.{term_at}
use Rattle.fir_meaning.specs.ModuleScenes.{Scene}
use Rattle.fir_meaning.specs.working.LeafedModules.{module_leaves}
use Rattle.fir_meaning.specs.working.NameGroups.{HasNames}
use Rattle.fir_meaning.specs.Reaching.{Reached}
use Rattle.fir_meaning.specs.ResetItems.{has_access}
use Rattle.fir_meaning.specs.SizedDeclarations.{numbered_modules}
use Rattle.fir_meaning.specs.SourceReads as tree
use Rattle.fir_meaning.specs.SourceReads.{leaves_named}
use Rattle.fir_meaning.specs.working.Targets.{Target}
use Rattle.fir_meaning.specs.working.TermReads.{is_picked, picks_read, reached, reads}
use Rattle.fir_meaning.specs.working.Terms.{Picks}
use Rattle.fir_meaning.specs.TypeGroup.{type_faults}
use Rattle.fir_meaning.specs.TypeLeaves.{TypeLeaf, type_leaves}
use Rattle.fir_meaning.specs.TypedScopes.{TypedScope}
use Rattle.fir_meaning.specs.Visibility.{declarations}
use Rattle.fir_meaning.specs.working.WellTyped.{HasType, Reaches}
use Rattle.fir_leaf.specs.working.LeafLaws.{Begins}

-- the path of a leaf of the module of a scene, by its number
abbrev pub path_in : Scene → ℕ → LeafPath
path_in s x = (leaf_at (module_leaves s) x).path

abbrev pub paths_in : Scene → List ℕ → List LeafPath
paths_in s xs = map (path_in s) xs

-- all that the module declares
abbrev pub scope_of_module : Scene → TypedScope
scope_of_module s = typed_scope s.own.modules (declarations s.own.inside)

-- every leaf that a target may name at a leaf of its type
abbrev pub leaves_from : Option ℕ → Picks → ℕ → List ℕ
leaves_from None picks k = []
leaves_from (Some b) picks k = reached (b + k) picks

abbrev pub leaves_of_target : Target → ℕ → List ℕ
leaves_of_target r k = leaves_from r.base r.picks k

pub record NamesByPath (s : Scene) (scope : TypedScope) (sink : SinkReference) (k : ℕ) (l : TypeLeaf) : Type 0 where
  pub leaves : paths_in s (leaves_of_target (target_of scope sink) k) ≡ leaves_named scope sink.name sink.parts l.path
  pub within : AllByRecursion (λ x. x < length (module_leaves s)) (leaves_of_target (target_of scope sink) k)
  pub picked : is_picked (target_of scope sink).picks ≡ has_access sink.parts
  pub indices : paths_in s (picks_read (target_of scope sink).picks) ≡ tree.index_reads scope sink.parts

-- of references and expressions that have types, where some of the module's declarations are known
pub record ReadsByPath (s : Scene) : Type 0 where
  pub expression :
      (scope : TypedScope) (e : Expression) (t : DataType) (k : ℕ) (l : TypeLeaf) → Begins scope (scope_of_module s) → HasType scope e t
      → slice_get (type_leaves t) k ≡ Some l → paths_in s (reads (term_at (terms scope e) k)) ≡ tree.reads scope e l.path
  pub target :
      (scope : TypedScope) (sink : SinkReference) (r : Reached) (k : ℕ) (l : TypeLeaf) → Begins scope (scope_of_module s) → Reaches scope sink r
      → slice_get (type_leaves r.data_type) k ≡ Some l → NamesByPath s scope sink k l
  -- no path is that of two leaves
  pub once : (x y : ℕ) → x < length (module_leaves s) → y < length (module_leaves s) → path_in s x ≡ path_in s y → x ≡ y

-- so it is in each module of a circuit that shows no fault of names or types
abbrev pub ModulesReadByPath : Type 0
ModulesReadByPath = (c : CircuitTree) (s : Scene) → HasNames c → type_faults c ≡ [] → In (numbered_modules c) s.own → ReadsByPath s
