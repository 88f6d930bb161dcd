-- What statements over leaves store at the leaves of the module at a path, where the instance of a name stores what is told.
use Rattle.std.proofs.Common.{◌≡◌, ℕ, List, [], ◌∷◌, ◌++◌, Bool, not, refl}
use Rattle.fir_meaning.specs.LeafPaths.{LeafPath}
use Rattle.fir_meaning.specs.working.DesignPaths.{instance_name, seen}
use Rattle.fir_meaning.specs.PathStores.{DesignStore}
use Rattle.fir_meaning.specs.working.DesignStores.{kept}
use Rattle.fir_meaning.specs.working.LeafBlocks.{LeafBlock, LeafStatement, joined}
use Rattle.fir_meaning.specs.working.LeafBlocks as over
use Rattle.fir_meaning.specs.working.LeafModules.{LeafModule}
use Rattle.fir_meaning.specs.working.Terms.{Term}
use Rattle.fir_meaning.specs.working.TermValues.{is_true, leaf_of}
use Rattle.fir_meaning.specs.TreeValues.{TypesByPath, ValuesByPath}

module _ {V : Type 0} (holds : TypesByPath) (env : ValuesByPath) (given : LeafPath → LeafModule → ℕ → Term → V)
    (path : LeafPath) (m : LeafModule)
    (child : List ℕ → DesignStore V → DesignStore V) where
  abbrev mutual
    pub run_one : LeafStatement → List Bool → DesignStore V → DesignStore V
    run_one (over.drive p b ps t) taken store = kept holds env given path m (leaf_of (seen path m holds) (seen path m env) b ps) t taken store
    run_one (over.when p c a b) taken store =
        run b (taken ++ not (is_true (seen path m holds) (seen path m env) c) ∷ [])
        (run a (taken ++ is_true (seen path m holds) (seen path m env) c ∷ []) store)
    run_one (over.instance i) taken store = child (instance_name m i) store

    pub run : LeafBlock → List Bool → DesignStore V → DesignStore V
    run over.done taken store = store
    run (over.then s b) taken store = run b taken (run_one s taken store)

  pub run_joined : (b c : LeafBlock) (taken : List Bool) (store : DesignStore V) → run (joined b c) taken store ≡ run c taken (run b taken store)
  run_joined over.done c taken store = refl
  run_joined (over.then s b) c taken store = run_joined b c taken (run_one s taken store)
