-- That a module means the same wherever its instance stands (FIRRTL spec, "Instances", "Modules").
-- What the statements of an instance's module, and of those within it, store below the path of the instance is told by the types, the values and the clocks
-- below that path, and by what was stored there; and it is the same for every instance of the module.
use Rattle.std.specs.Prelude.{◌≡◌, ℕ, ◌++◌, Option}
use Rattle.fir_meaning.specs.LeafPaths.{LeafPath}
use Rattle.fir_meaning.specs.PathStores.{DesignStore}
use Rattle.fir_meaning.specs.SourceDesigns.{SourceDesign}
use Rattle.fir_meaning.specs.SourceStores.{clock_gifts, exec_design, number_gifts}
use Rattle.fir_meaning.specs.TreeValues.{TypesByPath, ValuesByPath}

-- two functions of paths are the same below two paths
abbrev pub AreSameBelow : {A : Type 0} → LeafPath → LeafPath → (LeafPath → A) → (LeafPath → A) → Type 0
AreSameBelow one two f g = (x : LeafPath) → f (one ++ x) ≡ g (two ++ x)

abbrev pub ModulesMeanOneThing : Type 0
ModulesMeanOneThing =
    (d : SourceDesign) (one two : LeafPath) (holds types : TypesByPath) (env values : ValuesByPath)
    → AreSameBelow one two holds types → AreSameBelow one two env values
    → ((store other : DesignStore ℕ) → AreSameBelow one two store other
    → AreSameBelow one two (exec_design holds env (number_gifts holds env) one d store) (exec_design types values (number_gifts types values) two d other))
    × ((clocks others : LeafPath → Option ℕ) (store other : DesignStore (Option ℕ)) → AreSameBelow one two clocks others → AreSameBelow one two store other
    → AreSameBelow one two (exec_design holds env (clock_gifts holds env clocks) one d store)
    (exec_design types values (clock_gifts types values others) two d other))
