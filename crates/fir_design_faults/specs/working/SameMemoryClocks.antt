-- In each module a clock leaf has over numbered leaves the clock that it has by paths, and two ports of a memory are on different clocks over numbered leaves
-- exactly where they are by paths (FIRRTL spec, "Clock Type", "Memories").
use Rattle.std.specs.Prelude.{◌≡◌, ◌↔◌, ℕ, [], Some}
use Rattle.fir_base.specs.Lists.{In}
use Rattle.fir_ast.specs.Circuits.{CircuitTree}
use Rattle.fir_ast.specs.Faults.{Fault}
use Rattle.fir_meaning.specs.LeafPaths.{LeafPath}
use Rattle.fir_meaning.specs.ModuleScenes.{Scene}
use Rattle.fir_meaning.specs.SizedDeclarations.{numbered_modules}
use Rattle.fir_meaning.specs.SourceMemoryClocks.{HasClock, ShowsMemoryClocks}
use Rattle.fir_meaning.specs.TypeGroup.{type_faults}
use Rattle.fir_meaning.specs.working.LeafedModules.{leafed_module}
use Rattle.fir_meaning.specs.working.NameGroups.{HasNames}
use Rattle.fir_leaf.specs.working.ClockRoots.{HasRoot, IsClockLeaf}
use Rattle.fir_leaf.specs.working.MemoryClockFaults as numbered
use Rattle.fir_leaf.specs.working.ModuleCircuits.{module_circuit}
use Rattle.fir_source_faults.specs.working.ReadsByPath.{path_in}

pub record HasSameClock (s : Scene) (x : ℕ) : Type 0 where
  pub by_path : (root : ℕ) → HasRoot (module_circuit (leafed_module s)) x (Some root) → HasClock s (path_in s x) (path_in s root)
  pub by_number :
      (q : LeafPath) → HasClock s (path_in s x) q → (root : ℕ) × (path_in s root ≡ q) × HasRoot (module_circuit (leafed_module s)) x (Some root)

abbrev pub SameClocks : Type 0
SameClocks =
    (c : CircuitTree) (s : Scene) (x : ℕ) → HasNames c → type_faults c ≡ [] → In (numbered_modules c) s.own
    → IsClockLeaf (module_circuit (leafed_module s)) x → HasSameClock s x

abbrev pub SameMemoryClocks : Type 0
SameMemoryClocks =
    (c : CircuitTree) (s : Scene) (at : LeafPath) (f : Fault) → HasNames c → type_faults c ≡ [] → In (numbered_modules c) s.own
    → numbered.ShowsMemoryClocks (leafed_module s) at f ↔ ShowsMemoryClocks (record { at = at; scene = s }) f
