-- Laws of designs: which designs a module has, and that the leaf circuit of a design means what the design means (FIRRTL spec, "Instances").
use Rattle.std.specs.Prelude.{◌≡◌, ℕ, suc, ◌<◌, List, [], map, length, Option}
use Rattle.fir_meaning.specs.LeafPaths.{LeafPath}
use Rattle.fir_meaning.specs.TypeLeaves.{type_leaves}
use Rattle.fir_meaning.specs.ComponentTypes.{instance_bundle}
use Rattle.fir_meaning.specs.Visibility.{at_head}
use Rattle.fir_meaning.specs.working.TermValues.{clock_of}
use Rattle.fir_meaning.specs.working.LeafBlocks.{exec_all, nothing_stored}
use Rattle.fir_meaning.specs.working.LeafModules.{LeafModule}
use Rattle.fir_meaning.specs.ModuleScenes.{Scene}
use Rattle.fir_meaning.specs.working.LeafedModules.{leaves_of_ports}
use Rattle.fir_meaning.specs.working.LeafCircuits.{LeafCircuit, depth_of}
use Rattle.fir_leaf.specs.working.ChoiceLaws.{fitted_at}
use Rattle.fir_meaning.specs.TreeValues.{TypesByPath, ValuesByPath}
use Rattle.fir_meaning.specs.working.Designs.{Design, IsDesignOf, elaborated, AllInstances, IsRanked}
use Rattle.fir_meaning.specs.working.DesignStores.{clock_given, exec_below, number_given}
use Rattle.fir_meaning.specs.PathStores.{nothing_kept}
use Rattle.fir_leaf.specs.working.DesignStates.{array_at, array_paths_below, word_paths_below}
use Rattle.fir_meaning.specs.working.Flattened.{flattened}
use Rattle.fir_leaf.specs.working.SoundDesigns.{IsMain, IsSound, circuit_path}
use Rattle.fir_leaf.specs.working.NamedDesigns.{IsNamed}

-- a module has at most one design
abbrev pub OneDesign : Type 0
OneDesign = (modules : List LeafModule) (m : LeafModule) (d e : Design) → IsDesignOf modules m d → IsDesignOf modules m e → d ≡ e

-- where no module holds itself, elaboration to a depth above the ranks gives it
abbrev pub HasDesign : Type 0
HasDesign =
    (modules : List LeafModule) (rank : ℕ → ℕ) (n : ℕ) (m : LeafModule)
    → IsRanked modules rank → AllInstances (λ x. rank x < n) m.body → IsDesignOf modules m (elaborated (suc n) modules m)

-- what a function of paths is over the numbers of a circuit
abbrev pub numbered : {A : Type 0} → LeafCircuit → (LeafPath → A) → ℕ → A
numbered c f x = f (circuit_path c x)

-- where the names of each module are its own, no path of its design is that of two leaves
abbrev pub NamesMakeSound : Type 0
NamesMakeSound = (d : Design) → IsMain d → IsNamed d → IsSound d

-- for all values the circuit's body stores at each number what the design stores at that leaf, and nothing where that stores nothing
abbrev pub SameDesignStores : Type 0
SameDesignStores =
    (d : Design) (holds : TypesByPath) (env : ValuesByPath) → IsSound d → (x : ℕ) → x < length (flattened d).leaves
    → exec_all (numbered (flattened d) holds) (depth_of (flattened d)) (numbered (flattened d) env)
    (fitted_at (numbered (flattened d) holds) (numbered (flattened d) env)) (flattened d).body [] nothing_stored x
    ≡ exec_below holds env (number_given holds env) [] d nothing_kept (circuit_path (flattened d) x)

-- and so of clocks
abbrev pub SameDesignClocks : Type 0
SameDesignClocks =
    (d : Design) (holds : TypesByPath) (env : ValuesByPath) (clocks : LeafPath → Option ℕ) → IsSound d → (x : ℕ) → x < length (flattened d).leaves
    → exec_all (numbered (flattened d) holds) (depth_of (flattened d)) (numbered (flattened d) env)
    (λ y t. clock_of (numbered (flattened d) holds) (record { numbers = numbered (flattened d) env; clocks = numbered (flattened d) clocks }) t)
    (flattened d).body [] nothing_stored x
    ≡ exec_below holds env (clock_given holds env clocks) [] d nothing_kept (circuit_path (flattened d) x)

-- the words of the state are those of the walk through the design
abbrev pub SameWords : Type 0
SameWords = (d : Design) → IsSound d → map (circuit_path (flattened d)) (flattened d).words ≡ word_paths_below [] d

abbrev pub array_path : LeafCircuit → ℕ → LeafPath
array_path c x = (array_at c.arrays x).path

-- and its arrays
abbrev pub SameArrays : Type 0
SameArrays = (d : Design) → map (array_path (flattened d)) (flattened d).array_order ≡ array_paths_below [] d

-- the leaves of an instance have the paths of the first leaves of its module, those of the ports, in order
abbrev pub SamePorts : Type 0
SamePorts = (s : Scene) → map (λ l. l.path) (type_leaves (instance_bundle s.own.inside)) ≡ map (λ l. l.path) (leaves_of_ports s at_head s.own.inside.ports)
