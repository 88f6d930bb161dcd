-- The fault that the code makes of a memory that was found.
use Rattle.std.proofs.Common.{◌≡◌, List, ◌++◌, ℕ, refl}
use Rattle.fir_ast.specs.declared.fault.FirFault.TheVariants as fault
use Rattle.fir_ast.specs.working.CodeFaults.{fault_of}
use Rattle.fir_meaning.specs.working.LeafModules.{LeafModule}
use Rattle.fir_meaning.specs.working.LeafNames.{path_of_leaf}
use Rattle.fir_leaf.specs.working.ModuleCircuits.{module_circuit}
use Rattle.fir_memory_clocks.specs.declared.module_memories.FoundMemory.{FoundMemory}
use Rattle.fir_memory_clocks.specs.working.MemoriesTold.{fault_behind}

pub fault_told : (prefix : List ℕ) (m : LeafModule) (name : List ℕ) (v : FoundMemory) (memory clock other : List ℕ) → memory ≡ prefix ++ name
    → clock ≡ prefix ++ path_of_leaf (module_circuit m) v.clocks.clock → other ≡ prefix ++ path_of_leaf (module_circuit m) v.clocks.other_clock
    → fault_of (fault.MemoryClocks v.place memory clock other) ≡ fault_behind prefix m name v
fault_told prefix m name v memory clock other e f g = rw (e, f, g) refl
