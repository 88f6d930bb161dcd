-- The code's memories, and what they stand for (FIRRTL spec, "Memories").
use Rattle.std.specs.Prelude.{◌≡◌, ℕ, zero, suc, List, map, length, Bool, true, false}
use Rattle.fir_meaning.specs.working.LeafMemories.{LeafMemory}
use Rattle.fir_meaning.specs.MemoryPorts.{MemoryPortKind, reads, writes, reads_and_writes}
use Rattle.fir_meaning.specs.LeafTypes.{LeafType}
use Rattle.fir_leaf_table.specs.declared.memory.Memory.{Memory}
use Rattle.fir_leaf_table.specs.declared.memory.MemoryPort.{MemoryPort}
use Rattle.fir_leaf_table.specs.declared.memory.MemoryPort.TheVariants as port
use Rattle.fir_leaf_table.specs.working.TypedLeaves.{types_seen}

abbrev pub port_seen : MemoryPort → MemoryPortKind
port_seen port.Reads = reads
port_seen port.Writes = writes
port_seen port.ReadsAndWrites = reads_and_writes

-- whether it reads behind an edge
abbrev pub is_late : ℕ → Bool
is_late zero = false
is_late (suc n) = true

-- the leaves of its words hold these
pub record IsMemory (m : Memory) (meant : LeafMemory) (holds : List LeafType) : Type 0 where
  pub declaration : m.declaration ≡ meant.declaration
  pub holds_are : types_seen m.data.items ≡ holds
  pub data_leaves : length m.data.items ≡ meant.data_leaves
  pub words : m.words ≡ meant.words
  pub is_late : m.is_late ≡ is_late meant.read_latency
  pub under_write : m.under_write ≡ meant.under_write
  pub ports : map port_seen m.ports.items ≡ meant.ports
  pub first : m.first ≡ meant.first
  pub first_array : m.first_array ≡ meant.first_array
