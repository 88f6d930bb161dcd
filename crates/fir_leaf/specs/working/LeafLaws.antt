-- Laws about leaf circuits: what their numbers mean is what the tree means by paths.
use Rattle.std.specs.Prelude.{◌≡◌, ℕ, ◌<◌, List, [], ◌∷◌, ◌++◌, map, flat_map, length, Bool, Some, None, slice_index_or}
use Rattle.fir_base.specs.Lists.{Distinct, In}
use Rattle.fir_ast.specs.Types.{DataType}
use Rattle.fir_ast.specs.Expressions.{Expression}
use Rattle.fir_ast.specs.Statements.{Block}
use Rattle.fir_ast.specs.Circuits.{ModuleTree, CircuitTree}
use Rattle.fir_meaning.specs.LeafPaths.{LeafPath, named}
use Rattle.fir_meaning.specs.Mentions.{type_mentions}
use Rattle.fir_meaning.specs.NameGroups.{faults_in}
use Rattle.fir_meaning.specs.working.NameGroups.{HasNames}
use Rattle.fir_meaning.specs.Visibility.{Before, behind_block, behind_ports, at_head, declarations}
use Rattle.fir_meaning.specs.TypedScopes.{Known, TypedScope}
use Rattle.fir_meaning.specs.ComponentTypes.{typed_scope}
use Rattle.fir_meaning.specs.TypeGroup.{scope_at, type_faults}
use Rattle.fir_meaning.specs.Values.{fit}
use Rattle.fir_meaning.specs.working.WellTyped.{HasType, AreLegal}
use Rattle.fir_meaning.specs.working.TermValues.{eval}
use Rattle.fir_meaning.specs.working.Terms.{Term}
use Rattle.fir_meaning.specs.working.LeafBlocks.{LeafStore, exec_all, nothing_stored}
use Rattle.fir_meaning.specs.working.Leafed.{terms}
use Rattle.fir_meaning.specs.working.LeafedBlocks.{leafed_all}
use Rattle.fir_meaning.specs.FoundTypes.{leaves_of_data}
use Rattle.fir_meaning.specs.TreeValues.{TypesByPath, ValuesByPath}
use Rattle.fir_meaning.specs.working.TreeValues.{values}
use Rattle.fir_meaning.specs.working.TreeStores.{LeafFacts, PathStore, exec_tree_all}

-- the paths of all leaves that are declared, in order
abbrev pub known_paths : Known → List LeafPath
known_paths k = map (λ l. named k.name ∷ l.path) (leaves_of_data k.data_type)

abbrev pub scope_paths : TypedScope → List LeafPath
scope_paths scope = flat_map known_paths scope

-- the path of the leaf of a number
abbrev pub path_at : TypedScope → ℕ → LeafPath
path_at scope k = slice_index_or (scope_paths scope) k []

-- what a function of paths is over numbers
abbrev pub numbered : {A : Type 0} → TypedScope → (LeafPath → A) → ℕ → A
numbered scope f k = f (path_at scope k)

-- a scope is where another begins
abbrev pub Begins : TypedScope → TypedScope → Type 0
Begins scope whole = (more : TypedScope) × (scope ++ more ≡ whole)

-- the values of an expression's terms are those of its leaves, where its type has no field that is declared twice
abbrev pub SameValues : Type 0
SameValues =
    (scope whole : TypedScope) (holds : TypesByPath) (env : ValuesByPath) (e : Expression) (t : DataType) → Begins scope whole → HasType scope e t
    → faults_in (type_mentions t) ≡ []
    → map (eval (numbered whole holds) (numbered whole env)) (terms scope e) ≡ values scope holds env t e

-- no name is declared twice, and no field of a type
pub record IsFine (scope : TypedScope) : Type 0 where
  pub names : Distinct (map (λ (k : Known). k.name) scope)
  pub fields : (k : Known) (t : DataType) → In scope k → k.data_type ≡ Some t → faults_in (type_mentions t) ≡ []

-- at every leaf the same is stored, or nothing on both sides
pub record IsSameStore (whole : TypedScope) (by_number : LeafStore ℕ) (by_path : PathStore) : Type 0 where
  pub each : (k : ℕ) → k < length (scope_paths whole) → by_number k ≡ by_path (path_at whole k)

-- what a term gives to a leaf
abbrev pub number_given : TypedScope → TypesByPath → ValuesByPath → ℕ → Term → ℕ
number_given whole holds env x t = fit (eval (numbered whole holds) (numbered whole env) t) (numbered whole holds x)

-- for all values the statements over leaves store at every leaf what the tree's statements store, and nothing where these store nothing
abbrev pub SameStores : Type 0
SameStores =
    (modules : List ModuleTree) (before : Before) (whole : TypedScope) (facts : LeafFacts) (env : ValuesByPath) (b : Block) (taken : List Bool)
    (by_number : LeafStore ℕ) (by_path : PathStore)
    → IsFine whole → Begins (scope_at modules (behind_block before b)) whole → AreLegal modules before b → IsSameStore whole by_number by_path
    → IsSameStore whole
    (exec_all (numbered whole facts.holds) (numbered whole facts.depth) (numbered whole env) (number_given whole facts.holds env)
    (leafed_all modules (numbered whole facts.may_drive) before b) taken by_number)
    (exec_tree_all facts env modules before b taken by_path)

-- of each module of a circuit without a fault of names or types
abbrev pub SameModuleStores : Type 0
SameModuleStores =
    (c : CircuitTree) (m : ModuleTree) (facts : LeafFacts) (env : ValuesByPath) → HasNames c → type_faults c ≡ [] → In c.modules m
    → IsSameStore (typed_scope c.modules (declarations m))
    (exec_all (numbered (typed_scope c.modules (declarations m)) facts.holds) (numbered (typed_scope c.modules (declarations m)) facts.depth)
    (numbered (typed_scope c.modules (declarations m)) env) (number_given (typed_scope c.modules (declarations m)) facts.holds env)
    (leafed_all c.modules (numbered (typed_scope c.modules (declarations m)) facts.may_drive) (behind_ports at_head m.ports) m.body) [] nothing_stored)
    (exec_tree_all facts env c.modules (behind_ports at_head m.ports) m.body [] (λ x. None))
