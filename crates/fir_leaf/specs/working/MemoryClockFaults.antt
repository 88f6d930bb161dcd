-- E26: two ports of a memory on different clocks (FIRRTL spec, "Memories", "Clock Type").
-- It is of the module that holds the memory, in which what an instance gives is a source, as inputs are, and stands at the memory. The evidence is the clock of
-- the first port that has one, and the first that differs from it. Before each path stands that of the instance of the module.
use Rattle.std.specs.Prelude.{◌≡◌, ℕ, List, [], ◌∷◌, ◌++◌, Some, slice_get}
use Rattle.fir_base.specs.Lists.{In}
use Rattle.fir_ast.specs.Faults.{Fault}
use Rattle.fir_meaning.specs.SourceMemoryClocks.{memory_clocks_fault}
use Rattle.fir_ast.specs.Statements.{PlacedName}
use Rattle.fir_meaning.specs.LeafPaths.{LeafPath, named, path_text}
use Rattle.fir_meaning.specs.working.LeafModules.{LeafModule, MemoryDeclared, leaf_at}
use Rattle.fir_leaf.specs.working.ModuleCircuits.{module_circuit}
use Rattle.fir_leaf.specs.working.ClockRoots.{HasRoot}

-- the clock of a leaf is that of a source
abbrev pub HasClock : LeafModule → ℕ → ℕ → Type 0
HasClock m x root = HasRoot (module_circuit m) x (Some root)

-- the path of a leaf of the module, behind that of the instance
abbrev pub path_within : LeafPath → LeafModule → ℕ → List ℕ
path_within instance m x = path_text (instance ++ (leaf_at m.leaves x).path)

pub record ShowsMemoryClocks (m : LeafModule) (instance : LeafPath) (f : Fault) : Type 0 where
  pub memory : MemoryDeclared
  pub declared : In m.memories memory
  pub name : PlacedName
  pub is_name : slice_get m.declared memory.declaration ≡ Some name
  -- the ports, of which one has the first clock and another the first that differs
  pub before : List ℕ
  pub one : ℕ
  pub between : List ℕ
  pub other : ℕ
  pub after : List ℕ
  pub ports : memory.port_clocks ≡ before ++ one ∷ between ++ other ∷ after
  pub clock : ℕ
  pub other_clock : ℕ
  pub none_before : (x root : ℕ) → In before x → HasClock m x root → ⊥
  pub one_has : HasClock m one clock
  pub same_between : (x root : ℕ) → In between x → HasClock m x root → root ≡ clock
  pub other_has : HasClock m other other_clock
  pub differ : clock ≡ other_clock → ⊥
  pub is : f ≡ memory_clocks_fault name.place (path_text (instance ++ named name.name ∷ [])) (path_within instance m clock) (path_within instance m other_clock)
