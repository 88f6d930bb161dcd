-- What is told of the clocks of the memories of a circuit (E26; FIRRTL spec, "Memories", "Clock Type", "Instances").
use Rattle.std.specs.Prelude.{◌≡◌, ℕ, ◌<◌, List, [], ◌++◌, length, map, Option, Some, None, option_map, slice_get}
use Rattle.fir_base.specs.Lists.{In}
use Rattle.fir_ast.specs.declared.fault.FirFault.{FirFault}
use Rattle.fir_ast.specs.Circuits.{CircuitTree}
use Rattle.fir_ast.specs.Faults.{Fault}
use Rattle.fir_ast.specs.working.CodeFaults.{fault_of}
use Rattle.fir_pass.specs.Groups.{IsClear}
use Rattle.fir_meaning.specs.Elaborated.{HasMain}
use Rattle.fir_meaning.specs.ModuleScenes.{Scene}
use Rattle.fir_meaning.specs.Scenes.{IsSceneOf}
use Rattle.fir_meaning.specs.SourceMemoryClocks.{memory_clock_group, memory_clocks_fault}
use Rattle.fir_meaning.specs.TypeGroup.{type_faults}
use Rattle.fir_meaning.specs.working.Designs.{Design}
use Rattle.fir_meaning.specs.working.LeafModules.{LeafModule}
use Rattle.fir_meaning.specs.working.LeafNames.{path_of_leaf}
use Rattle.fir_meaning.specs.working.LeafedModules.{leafed_module}
use Rattle.fir_meaning.specs.working.NameGroups.{HasNames}
use Rattle.fir_leaf.specs.working.ModuleCircuits.{module_circuit}
use Rattle.fir_leaf_text.specs.working.DeclaredNames.{names_in_module}
use Rattle.fir_design.specs.working.CircuitDesigns.{IsSoundDesign}
use Rattle.fir_copies.specs.working.Copies.{copies_of}
use Rattle.fir_elaborate.specs.declared.elaborated.ModuleCopy.{ModuleCopy}
use Rattle.fir_elaborate.specs.working.CopyPaths.{paths_below, prefix_text}
use Rattle.fir_elaborate.specs.working.Elaborations.{copy_seen}
use Rattle.fir_memory_clocks.specs.declared.first_site.Site.{Site}
use Rattle.fir_memory_clocks.specs.declared.module_memories.FoundMemory.{FoundMemory}
use Rattle.fir_memory_clocks.specs.working.ModuleMemories.{HasClearClocks, HasOneClocks}

-- the names of what each module declares, by the numbers of the modules
abbrev pub AreNamesOf : CircuitTree → List (List (List ℕ)) → Type 0
AreNamesOf c names = names ≡ map names_in_module c.modules

-- the copies of the modules in the design of a circuit without a fault of names or types, where no clock is unclear
pub record AreClearCopies (c : CircuitTree) (copies : List ModuleCopy) : Type 0 where
  pub names : HasNames c
  pub types : type_faults c ≡ []
  pub scenes : List Scene
  pub main : Scene
  pub has : HasMain c scenes main
  pub among : In scenes main
  pub design : Design
  pub sound : IsSoundDesign scenes main design
  pub number : ℕ
  pub at : slice_get scenes number ≡ Some main
  pub are : map copy_seen copies ≡ copies_of number design
  pub prefixes : map (λ (k : ModuleCopy). k.prefix) copies ≡ map prefix_text (paths_below [] design)
  pub clear : (k : ModuleCopy) (s : Scene) → In copies k → slice_get scenes k.module_number ≡ Some s → HasClearClocks (leafed_module s)

-- the fault of a memory that was found in a module, behind what stands before the paths of its copy
abbrev pub fault_behind : List ℕ → LeafModule → List ℕ → FoundMemory → Fault
fault_behind prefix m name v =
    memory_clocks_fault v.place (prefix ++ name) (prefix ++ path_of_leaf (module_circuit m) v.clocks.clock)
    (prefix ++ path_of_leaf (module_circuit m) v.clocks.other_clock)

-- no fault is shown, and in each module of the design the ports of each memory have one clock
pub record ShowsNone (c : CircuitTree) (copies : List ModuleCopy) : Type 0 where
  pub clear : IsClear (memory_clock_group c)
  pub one : (k : ModuleCopy) (s : Scene) → In copies k → IsSceneOf c k.module_number s → HasOneClocks (leafed_module s)

-- it is the first
pub record TellsFirst (c : CircuitTree) (f : Fault) : Type 0 where
  pub told : (memory_clock_group c).tells f
  pub shown : (memory_clock_group c).shows f

abbrev pub IsToldOf : CircuitTree → List ModuleCopy → Option FirFault → Type 0
IsToldOf c copies None = ShowsNone c copies
IsToldOf c copies (Some f) = TellsFirst c (fault_of f)

-- the fault that is made of a memory that was found, by the scene of its copy's module
abbrev pub TellsSite : CircuitTree → List (List (List ℕ)) → List ModuleCopy → Site → Option FirFault → Type 0
TellsSite c names copies site told =
    (k : ModuleCopy) (s : Scene) (ns : List (List ℕ)) (name : List ℕ) → slice_get copies site.copy ≡ Some k → IsSceneOf c k.module_number s
    → slice_get names k.module_number ≡ Some ns → slice_get ns site.memory.declaration ≡ Some name
    → site.memory.clocks.clock < length (leafed_module s).leaves → site.memory.clocks.other_clock < length (leafed_module s).leaves
    → option_map fault_of told ≡ Some (fault_behind k.prefix (leafed_module s) name site.memory)
