-- The first memory of a module that has two ports on different clocks (FIRRTL spec, "Memories", "Clock Type").
use Rattle.std.specs.Prelude.{◌≡◌, ◌↔◌, ◌⊎◌, ℕ, ◌<◌, List, [], ◌∷◌, length, Bool, true, false, Option, Some, None, slice_get}
use Rattle.fir_base.specs.Lists.{In}
use Rattle.fir_ast.specs.Faults.{Fault}
use Rattle.fir_ast.specs.Statements.{PlacedName}
use Rattle.fir_meaning.specs.Lack.{is_before}
use Rattle.fir_meaning.specs.working.LeafModules.{LeafModule, MemoryDeclared, leaf_at}
use Rattle.fir_meaning.specs.working.UndrivenLeaves.{AreDriven}
use Rattle.fir_leaf.specs.working.ClockFaults.{ShowsPickedClock, ShowsTwoLive}
use Rattle.fir_leaf.specs.working.ClockRoots.{IsClockLeaf}
use Rattle.fir_leaf.specs.working.LeafNumbers.{BlockWithin}
use Rattle.fir_leaf.specs.working.MemoryClockFaults.{HasClock}
use Rattle.fir_leaf.specs.working.ModuleCircuits.{module_circuit}
use Rattle.fir_leaf_types.specs.working.TypedModules.{IsModuleTyped}
use Rattle.fir_leaf_circuit.specs.declared.leaf_module.LeafModule.{LeafModule as ModuleOfCode}
use Rattle.fir_leaf_circuit.specs.declared.leaf_module.MemoryClocks.{MemoryClocks}
use Rattle.fir_leaf_circuit.specs.working.Seen.{HasView, memory_seen}
use Rattle.fir_elaborate.specs.declared.elaborated.ModuleCopy.{ModuleCopy}
use Rattle.fir_whens.specs.declared.module_net.ModuleNet.{ModuleNet}
use Rattle.fir_whens.specs.working.ModuleNets.{IsNetOf}
use Rattle.fir_memory_clocks.specs.declared.module_memories.FoundMemory.{FoundMemory}
use Rattle.fir_memory_clocks.specs.working.PortClocks.{AreTwoClocks, HasRootIn, HaveOneClock}

-- E25 stands at no leaf of it
abbrev pub HasClearClocks : LeafModule → Type 0
HasClearClocks m =
    (x : ℕ) (f : Fault) → x < length m.leaves → ShowsPickedClock (module_circuit m) x f ⊎ ShowsTwoLive (module_circuit m) x f → ⊥

-- a memory that is declared under this name: the clock leaves of its ports stand where it does
pub record IsNamedMemory (m : LeafModule) (memory : MemoryDeclared) (name : PlacedName) : Type 0 where
  pub is_name : slice_get m.declared memory.declaration ≡ Some name
  pub clocks : (x : ℕ) → In memory.port_clocks x → IsClockLeaf (module_circuit m) x
  pub places : (x : ℕ) → In memory.port_clocks x → (leaf_at m.leaves x).place ≡ name.place

-- a module that has types, whose statements drive what they must, and whose clocks are clear
pub record IsClearModule (m : LeafModule) : Type 0 where
  pub typed : IsModuleTyped m
  pub within : BlockWithin (length m.leaves) m.body
  pub driven : AreDriven m
  pub clear : HasClearClocks m
  pub named : (memory : MemoryDeclared) → In m.memories memory → (name : PlacedName) × IsNamedMemory m memory name

-- all ports of each of its memories that have a clock have the same
abbrev pub HasOneClocks : LeafModule → Type 0
HasOneClocks m = (memory : MemoryDeclared) → In m.memories memory → HaveOneClock (HasClock m) memory.port_clocks

-- one of these memories of it, by its name, has two ports on these clocks
pub record IsOnTwoClocks (m : LeafModule) (memories : List MemoryDeclared) (name : PlacedName) (declaration clock other_clock : ℕ) : Type 0 where
  pub memory : MemoryDeclared
  pub among : In memories memory
  pub declaration_is : memory.declaration ≡ declaration
  pub is_name : slice_get m.declared declaration ≡ Some name
  pub clocks : AreTwoClocks (HasClock m) memory.port_clocks clock other_clock

-- and it is the first of these in the text
pub record IsFirstFound (m : LeafModule) (memories : List MemoryDeclared) (v : FoundMemory) : Type 0 where
  pub name : PlacedName
  pub place : v.place ≡ name.place
  pub is : IsOnTwoClocks m memories name v.declaration v.clocks.clock v.clocks.other_clock
  pub first :
      (other : PlacedName) (declaration clock other_clock : ℕ) → IsOnTwoClocks m memories other declaration clock other_clock
      → is_before other.place v.place ≡ false

abbrev pub IsFirstAmong : LeafModule → List MemoryDeclared → Option FoundMemory → Type 0
IsFirstAmong m memories None = (memory : MemoryDeclared) → In memories memory → HaveOneClock (HasClock m) memory.port_clocks
IsFirstAmong m memories (Some v) = IsFirstFound m memories v

-- the first of all memories of a clear module with this net
abbrev pub IsFirstOf : ModuleOfCode → ModuleNet → Option FoundMemory → Type 0
IsFirstOf part net found = (m : LeafModule) → HasView part m → IsNetOf m net → IsClearModule m → IsFirstAmong m m.memories found

-- a module of the code and that of the definitions, which is clear; and the roots of its leaves are its clocks
pub record AreClocksOf (part : ModuleOfCode) (m : LeafModule) (roots : List (Option ℕ)) : Type 0 where
  pub view : HasView part m
  pub is_clear : IsClearModule m
  pub each : (x root : ℕ) → IsClockLeaf (module_circuit m) x → HasRootIn roots x root ↔ HasClock m x root

-- the first of all its memories by these roots, and the memory alone
abbrev pub IsFirstByRoots : ModuleOfCode → List (Option ℕ) → Option FoundMemory → Type 0
IsFirstByRoots part roots found = (m : LeafModule) → AreClocksOf part m roots → IsFirstAmong m m.memories found

abbrev pub IsFoundAlone : ModuleOfCode → List (Option ℕ) → MemoryClocks → Option FoundMemory → Type 0
IsFoundAlone part roots memory found =
    (m : LeafModule) → AreClocksOf part m roots → In m.memories (memory_seen memory) → IsFirstAmong m (memory_seen memory ∷ []) found

-- what is found in the module of a number, where it has a copy
abbrev pub IsFoundIn : List ModuleOfCode → List ModuleNet → List Bool → ℕ → Option FoundMemory → Type 0
IsFoundIn parts nets held x found =
    (part : ModuleOfCode) (net : ModuleNet) → slice_get parts x ≡ Some part → slice_get nets x ≡ Some net → slice_get held x ≡ Some true
    → IsFirstOf part net found

-- the first memories of modules with these nets, by their numbers, of those that have one of these copies
pub record AreFirstMemories (parts : List ModuleOfCode) (nets : List ModuleNet) (copies : List ModuleCopy) (found : List (Option FoundMemory)) : Type 0 where
  pub count : length found ≡ length parts
  pub each : (k : ModuleCopy) (part : ModuleOfCode) (net : ModuleNet) (v : Option FoundMemory) → In copies k → slice_get parts k.module_number ≡ Some part
      → slice_get nets k.module_number ≡ Some net → slice_get found k.module_number ≡ Some v → IsFirstOf part net v
