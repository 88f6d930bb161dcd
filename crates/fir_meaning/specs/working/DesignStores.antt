-- What the statements of a design store at its leaves, by their paths (FIRRTL spec, "Instances", "Conditional Last Connect Semantics").
-- An instance's statements stand in the place where it is declared, and are run under no when: those that stand round its declaration condition nothing in it.
use Rattle.std.specs.Prelude.{ℕ, List, [], ◌∷◌, ◌++◌, Bool, not, Option, Some, None, if◌then◌else◌}
use Rattle.fir_meaning.specs.LeafPaths.{LeafPath}
use Rattle.fir_meaning.specs.Values.{fit}
use Rattle.fir_meaning.specs.working.Terms.{Term}
use Rattle.fir_meaning.specs.working.TermValues.{clock_of, eval, is_true, leaf_of}
use Rattle.fir_meaning.specs.CountedWhens.{counts}
use Rattle.fir_meaning.specs.working.LeafModules.{LeafModule, leaf_at}
use Rattle.fir_meaning.specs.TreeValues.{TypesByPath, ValuesByPath}
use Rattle.fir_meaning.specs.working.Designs.{Item, drive, when, instance, Items, done, then, Design, made_of}
use Rattle.fir_meaning.specs.working.DesignPaths.{instance_path, leaf_path, seen}
use Rattle.fir_meaning.specs.PathStores.{DesignStore, kept_at}

-- the type of each leaf, its settled value, and what a term gives to a leaf of the module of the instance at a path
module _ {V : Type 0} (holds : TypesByPath) (env : ValuesByPath) (given : LeafPath → LeafModule → ℕ → Term → V) where
  abbrev pub kept : LeafPath → LeafModule → Option ℕ → Term → List Bool → DesignStore V → DesignStore V
  kept path m None t taken store = store
  kept path m (Some x) t taken store =
      if counts (leaf_at m.leaves x).depth taken then kept_at (leaf_path path m x) (given path m x t) store else store

  abbrev mutual
    pub exec_item : LeafPath → LeafModule → Item → List Bool → DesignStore V → DesignStore V
    exec_item path m (drive p b ps t) taken store = kept path m (leaf_of (seen path m holds) (seen path m env) b ps) t taken store
    exec_item path m (when p c a b) taken store =
        exec_items path m b (taken ++ not (is_true (seen path m holds) (seen path m env) c) ∷ [])
        (exec_items path m a (taken ++ is_true (seen path m holds) (seen path m env) c ∷ []) store)
    exec_item path m (instance i d) taken store = exec_below (instance_path path m i) d store

    pub exec_items : LeafPath → LeafModule → Items → List Bool → DesignStore V → DesignStore V
    exec_items path m done taken store = store
    exec_items path m ((then) i is) taken store = exec_items path m is taken (exec_item path m i taken store)

    -- of the design of the instance at the path
    pub exec_below : LeafPath → Design → DesignStore V → DesignStore V
    exec_below path (made_of m is) store = exec_items path m is [] store

-- what a term gives to a leaf: a number
abbrev pub number_given : TypesByPath → ValuesByPath → LeafPath → LeafModule → ℕ → Term → ℕ
number_given holds env path m x t = fit (eval (seen path m holds) (seen path m env) t) (holds (leaf_path path m x))

-- or a clock
abbrev pub clock_given : TypesByPath → ValuesByPath → (LeafPath → Option ℕ) → LeafPath → LeafModule → ℕ → Term → Option ℕ
clock_given holds env clocks path m x t = clock_of (seen path m holds) (record { numbers = seen path m env; clocks = seen path m clocks }) t
