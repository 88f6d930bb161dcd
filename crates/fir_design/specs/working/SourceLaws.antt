-- Laws of the trees of designs: the leaf views of their modules store what their statements store, at every path (FIRRTL spec, "Instances").
use Rattle.std.specs.Prelude.{◌≡◌, ℕ, List, [], Option}
use Rattle.fir_base.specs.Lists.{In}
use Rattle.fir_ast.specs.Circuits.{CircuitTree}
use Rattle.fir_meaning.specs.LeafPaths.{LeafPath}
use Rattle.fir_meaning.specs.working.NameGroups.{HasNames}
use Rattle.fir_meaning.specs.TypeGroup.{type_faults}
use Rattle.fir_meaning.specs.working.DesignStores.{clock_given, exec_below, number_given}
use Rattle.fir_meaning.specs.PathStores.{nothing_kept}
use Rattle.fir_meaning.specs.working.Designs.{Design, IsDesignOf}
use Rattle.fir_meaning.specs.ModuleScenes.{Scene}
use Rattle.fir_meaning.specs.working.LeafedModules.{leafed_module}
use Rattle.fir_meaning.specs.TreeValues.{TypesByPath, ValuesByPath}
use Rattle.fir_meaning.specs.Elaborated.{AreScenes}
use Rattle.fir_meaning.specs.working.Elaborated.{views}
use Rattle.fir_meaning.specs.SourceDesigns.{IsSourceDesignOf, SourceDesign}
use Rattle.fir_meaning.specs.SourceStores.{clock_gifts, exec_design, number_gifts}

-- where no fault of names or types stands, a design of a module's view stores what the tree of its statements stores: numbers
abbrev pub ViewsStoreAsTrees : Type 0
ViewsStoreAsTrees =
    (c : CircuitTree) (scenes : List Scene) (s : Scene) (d : Design) (tree : SourceDesign) (holds : TypesByPath) (env : ValuesByPath) (x : LeafPath)
    → HasNames c → type_faults c ≡ [] → AreScenes c scenes → In scenes s → IsDesignOf (views scenes) (leafed_module s) d → IsSourceDesignOf scenes s tree
    → exec_below holds env (number_given holds env) [] d nothing_kept x ≡ exec_design holds env (number_gifts holds env) [] tree nothing_kept x

-- and clocks
abbrev pub ViewsClockAsTrees : Type 0
ViewsClockAsTrees =
    (c : CircuitTree) (scenes : List Scene) (s : Scene) (d : Design) (tree : SourceDesign) (holds : TypesByPath) (env : ValuesByPath)
    (clocks : LeafPath → Option ℕ) (x : LeafPath)
    → HasNames c → type_faults c ≡ [] → AreScenes c scenes → In scenes s → IsDesignOf (views scenes) (leafed_module s) d → IsSourceDesignOf scenes s tree
    → exec_below holds env (clock_given holds env clocks) [] d nothing_kept x ≡ exec_design holds env (clock_gifts holds env clocks) [] tree nothing_kept x

-- a module that has a design has a tree of designs, and no other
abbrev pub HasOneTree : Type 0
HasOneTree =
    (c : CircuitTree) (scenes : List Scene) (s : Scene) (d : Design) → HasNames c → type_faults c ≡ [] → AreScenes c scenes → In scenes s
    → IsDesignOf (views scenes) (leafed_module s) d
    → (tree : SourceDesign) × IsSourceDesignOf scenes s tree × ((other : SourceDesign) → IsSourceDesignOf scenes s other → other ≡ tree)
