-- What connects and invalids leave at a leaf (FIRRTL spec, "Connects", "Partial Connects", "Invalidates", "Last Connect Semantics").
-- Of all statements that drive a leaf the last one gives what is stored there. Where none does, what was stored stays, and a register keeps what it shows.
use Rattle.std.specs.Prelude.{◌≡◌, ℕ, ◌≤◌, List, [], ◌∷◌, ◌++◌, length, Bool, Option, Some, None}
use Rattle.fir_ast.specs.declared.place.Place.{Place}
use Rattle.fir_ast.specs.Types.{DataType}
use Rattle.fir_ast.specs.Expressions.{Expression}
use Rattle.fir_ast.specs.Statements.{SinkReference, Statement, connect, partial_connect, Block, then}
use Rattle.fir_meaning.specs.ConnectPairs.{Pair, ground_pair, pairs, partial_pairs}
use Rattle.fir_meaning.specs.LeafPaths.{LeafPath}
use Rattle.fir_meaning.specs.TypeGroup.{scope_at}
use Rattle.fir_meaning.specs.Values.{fit}
use Rattle.fir_meaning.specs.Visibility.{Before, behind, behind_block}
use Rattle.fir_meaning.specs.PathStores.{DesignStore}
use Rattle.fir_meaning.specs.ModuleScenes.{Scene, behind_all_ports}
use Rattle.fir_meaning.specs.TreeValues.{TypesByPath, ValuesByPath, aim_of, value}
use Rattle.fir_meaning.specs.SourceAllows.{stored_or_shown}
use Rattle.fir_meaning.specs.SourceDesigns.{Instances, SourceDesign, made_of}
use Rattle.fir_meaning.specs.SourceFacts.{source_depth}
use Rattle.fir_meaning.specs.SourceStores.{Gifts, below, exec_design, exec_source_all, number_gifts}
use Rattle.fir_meaning.specs.SourceValues.{PathEnv, number_stored, source_holds}
use Rattle.fir_source_laws.specs.working.SparedLeaves.{InstanceSpares, SparedBy, SparesAll, SparesPairs, TreeSpares, driven, followed, gift, pairs_between}

-- a pair of a statement that connects by pairs gives what is stored, where no later pair and no later statement drives its leaf, and the leaf is declared within
-- all whens round the statement: at a leaf of the module's head, where there are none
abbrev pub LastConnectOf : (V : Type 0) → (Place → SinkReference → Expression → Statement) → (DataType → DataType → List Pair) → Type 0
LastConnectOf V statement pairs_of =
    (s : Scene) (holds : TypesByPath) (env : ValuesByPath) (gifts : Gifts V) (path : LeafPath) (child : List ℕ → DesignStore V → DesignStore V)
    (before place : Before) (earlier later : Block) (p : Place) (sink : SinkReference) (e : Expression) (taken : List Bool) (store : DesignStore V)
    (first rest : List Pair) (pair : Pair) (x : LeafPath)
    → place ≡ behind_block before earlier
    → pairs_between holds env pairs_of (scope_at s.own.modules place) sink e ≡ first ++ pair ∷ rest
    → driven holds env (scope_at s.own.modules place) sink e pair ≡ Some x
    → SparesPairs s holds env path (path ++ x) (scope_at s.own.modules place) sink e taken rest
    → SparesAll s holds env path (path ++ x) (SparedBy child (path ++ x)) (behind place (statement p sink e)) later taken
    → length taken ≤ source_depth s x
    → exec_source_all s holds env gifts path child before (followed earlier ((then) (statement p sink e) later)) taken store (path ++ x)
    ≡ Some (gift gifts (scope_at s.own.modules place) sink e pair x)

-- of numbers and of clocks
abbrev pub LastConnect : Type 0
LastConnect = LastConnectOf ℕ connect pairs × LastConnectOf (Option ℕ) connect pairs

abbrev pub LastPartialConnect : Type 0
LastPartialConnect = LastConnectOf ℕ partial_connect partial_pairs × LastConnectOf (Option ℕ) partial_connect partial_pairs

-- so a connect of ground leaves in a module's body, in no when, stores the value of its right side at the type of the leaf
abbrev pub LastGroundConnect : Type 0
LastGroundConnect =
    (holds : TypesByPath) (env : ValuesByPath) (path : LeafPath) (s : Scene) (is : Instances) (store : DesignStore ℕ)
    (place : Before) (earlier later : Block) (p : Place) (sink : SinkReference) (e : Expression) (t u : DataType) (x : LeafPath)
    → s.own.inside.body ≡ followed earlier ((then) (connect p sink e) later)
    → place ≡ behind_block (behind_all_ports s.own.inside) earlier
    → pairs_between (below path holds) (below path env) pairs (scope_at s.own.modules place) sink e ≡ ground_pair t u
    → (aim_of (scope_at s.own.modules place) (below path holds) (below path env) sink).at ≡ Some x
    → SparesAll s (below path holds) (below path env) path (path ++ x) (InstanceSpares holds env (path ++ x) path is) place later []
    → exec_design holds env (number_gifts holds env) path (made_of s is) store (path ++ x)
    ≡ Some (fit (value (scope_at s.own.modules place) (below path holds) (below path env) e []) (holds (path ++ x)))

-- a leaf that all statements of a block spare stays as it was
abbrev pub SparedStaysOf : Type 0 → Type 0
SparedStaysOf V =
    (s : Scene) (holds : TypesByPath) (env : ValuesByPath) (gifts : Gifts V) (path : LeafPath) (child : List ℕ → DesignStore V → DesignStore V)
    (before : Before) (b : Block) (taken : List Bool) (store : DesignStore V) (x : LeafPath)
    → SparesAll s holds env path x (SparedBy child x) before b taken
    → exec_source_all s holds env gifts path child before b taken store x ≡ store x

abbrev pub SparedStays : Type 0
SparedStays = SparedStaysOf ℕ × SparedStaysOf (Option ℕ)

-- and one that a whole tree spares
abbrev pub SparedInTreesOf : Type 0 → Type 0
SparedInTreesOf V =
    (holds : TypesByPath) (env : ValuesByPath) (gifts : LeafPath → Gifts V) (at : LeafPath) (d : SourceDesign) (store : DesignStore V) (x : LeafPath)
    → TreeSpares holds env x at d → exec_design holds env gifts at d store x ≡ store x

abbrev pub SparedInTrees : Type 0
SparedInTrees = SparedInTreesOf ℕ × SparedInTreesOf (Option ℕ)

-- where all statements of the circuit spare it nothing is stored there, and a register that has its turn takes what it shows
abbrev pub UndrivenKeeps : Type 0
UndrivenKeeps =
    (t : SourceDesign) (state edges : List ℕ) (env : PathEnv) (x : LeafPath) → TreeSpares (source_holds t) env.numbers x [] t
    → (number_stored t env x ≡ None) × (stored_or_shown t state edges env x ≡ env.numbers x)
