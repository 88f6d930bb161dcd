-- The statements of a module within a tree of designs (FIRRTL spec, "Instances").
-- Each has its place in the module of the instance at a path, whose instances are given; types and values are told by paths from the main module on.
use Rattle.std.specs.Prelude.{◌≡◌, List, ◌++◌, Bool}
use Rattle.fir_ast.specs.Statements.{Block, Statement}
use Rattle.fir_meaning.specs.LeafPaths.{LeafPath}
use Rattle.fir_meaning.specs.Visibility.{Before}
use Rattle.fir_meaning.specs.PathStores.{DesignStore}
use Rattle.fir_meaning.specs.ModuleScenes.{Scene}
use Rattle.fir_meaning.specs.SourceDesigns.{Instances}
use Rattle.fir_meaning.specs.SourceStores.{Gifts, below, exec_instances, exec_source, exec_source_all}
use Rattle.fir_meaning.specs.TreeValues.{TypesByPath, ValuesByPath}

-- the paths that begin with a path
abbrev pub IsBelow : LeafPath → LeafPath → Type 0
IsBelow at x = (rest : LeafPath) × (x ≡ at ++ rest)

-- a store is told by the leaf that is asked for
abbrev pub TellsByLeaf : {V : Type 0} → (DesignStore V → DesignStore V) → Type 0
TellsByLeaf {V} run = (one other : DesignStore V) (x : LeafPath) → one x ≡ other x → run one x ≡ run other x

module _ {V : Type 0} (s : Scene) (holds : TypesByPath) (env : ValuesByPath) (gifts : LeafPath → Gifts V) (path : LeafPath) (is : Instances) where
  abbrev pub exec_in : Before → Statement → List Bool → DesignStore V → DesignStore V
  exec_in before y taken store = exec_source s (below path holds) (below path env) (gifts path) path (exec_instances holds env gifts path is) before y taken store

  abbrev pub exec_all_in : Before → Block → List Bool → DesignStore V → DesignStore V
  exec_all_in before b taken store =
      exec_source_all s (below path holds) (below path env) (gifts path) path (exec_instances holds env gifts path is) before b taken store
