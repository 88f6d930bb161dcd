-- The leaves of a memory's ports, its arrays and what writes them (FIRRTL spec, "Memories").
-- A port has addr, en and clk, and then what is read and written: data; data and mask; or rdata, wmode, wdata and wmask. A mask has a leaf for each of the
-- data. There is an array for each leaf of the data.
use Rattle.std.specs.Prelude.{ℕ, zero, suc, ◌+◌, ◌*◌, List, [], ◌∷◌, ◌++◌, map, flat_map, length, true, false, Option, Some, None, unwrap_or}
use Rattle.fir_ast.specs.declared.statements.ReadUnderWrite.{ReadUnderWrite}
use Rattle.fir_ast.specs.declared.statements.ReadUnderWrite.TheVariants as under
use Rattle.fir_ast.specs.Types.{DataType}
use Rattle.fir_ast.specs.Statements.{PlacedName, MemoryPart, reader, writer, readwriter}
use Rattle.fir_meaning.specs.LeafPaths.{named}
use Rattle.fir_meaning.specs.Components.{Component, Declaration, Declarations}
use Rattle.fir_meaning.specs.Components as component
use Rattle.fir_meaning.specs.Costs.{sum_of}
use Rattle.fir_meaning.specs.TypeLeaves.{TypeLeaf, leaf_count}
use Rattle.fir_meaning.specs.MemoryTypes.{data_of_part, depth_of_part, first_one}
use Rattle.fir_meaning.specs.MemoryFaults.{read_latency_of_part, read_under_write_of_part}
use Rattle.fir_meaning.specs.LeafTypes.{LeafType}
use Rattle.fir_meaning.specs.working.LeafModules.{LeafArray, MemoryDeclared, Need, Reading, Role, Writing, sink, reading, pipe}
use Rattle.fir_meaning.specs.MemoryPorts.{MemoryPortKind, reads, writes, reads_and_writes}

abbrev pub port_kinds_of : MemoryPart → List MemoryPortKind
port_kinds_of (reader q names) = map (λ n. reads) names
port_kinds_of (writer q names) = map (λ n. writes) names
port_kinds_of (readwriter q names) = map (λ n. reads_and_writes) names
port_kinds_of _ = []

-- a memory: how many are declared before it, its name, how many leaves its data has, how many words, how late it reads, what it reads of a word that is
-- written at the same edge, its ports in the order of the text, and the numbers of its first leaf and its first array
pub record LeafMemory : Type 0 where
  pub declaration : ℕ
  pub named : PlacedName
  pub data_leaves : ℕ
  pub words : ℕ
  pub read_latency : ℕ
  pub under_write : ReadUnderWrite
  pub ports : List MemoryPortKind
  pub first : ℕ
  pub first_array : ℕ

abbrev pub count_of_data : Option DataType → ℕ
count_of_data None = 0
count_of_data (Some t) = leaf_count t

-- how many arrays a memory has
abbrev pub array_count : List MemoryPart → ℕ
array_count parts = count_of_data (first_one (flat_map data_of_part parts))

abbrev pub arrays_of : Component → ℕ
arrays_of (component.memory parts) = array_count parts
arrays_of _ = 0

-- the memory before which these are declared, with so many leaves
abbrev pub memory_behind : Declarations → ℕ → PlacedName → List MemoryPart → LeafMemory
memory_behind ds first n parts = record {
  declaration = length ds;
  named = n;
  data_leaves = array_count parts;
  words = unwrap_or (first_one (flat_map depth_of_part parts)) 0;
  read_latency = unwrap_or (first_one (flat_map read_latency_of_part parts)) 0;
  under_write = unwrap_or (first_one (flat_map read_under_write_of_part parts)) under.Old;
  ports = flat_map port_kinds_of parts;
  first = first;
  first_array = sum_of (map (λ (d : Declaration). arrays_of d.component) ds);
}

-- of a port of a memory whose data has so many leaves
abbrev pub port_size : ℕ → MemoryPortKind → ℕ
port_size d reads = 3 + d
port_size d writes = 3 + 2 * d
port_size d reads_and_writes = 4 + 3 * d

-- the leaves of a port that begins at a leaf
abbrev pub enable : ℕ → Need
enable b = record { leaf = b + 1; high = true }

abbrev pub mode : ℕ → ℕ → ℕ
mode d b = b + 3 + d

abbrev pub read_role : LeafMemory → List Need → ℕ → ℕ → Role
read_role m needs b i = by m.read_latency
  where
    this : Reading
    this = record { array = m.first_array + i; address = b; needs = needs }

    by : ℕ → Role
    by zero = reading this
    by (suc l) = pipe this (b + 2) m.under_write

-- of so many data leaves, from one on
abbrev pub read_roles : LeafMemory → List Need → ℕ → ℕ → ℕ → List Role
read_roles m needs b i zero = []
read_roles m needs b i (suc n) = read_role m needs b i ∷ read_roles m needs b (suc i) n

abbrev pub sinks : ℕ → List Role
sinks zero = []
sinks (suc n) = sink ∷ sinks n

abbrev pub port_roles : LeafMemory → ℕ → MemoryPortKind → List Role
port_roles m b reads = sinks 3 ++ read_roles m (enable b ∷ []) b 0 m.data_leaves
port_roles m b writes = sinks (3 + 2 * m.data_leaves)
port_roles m b reads_and_writes =
    sinks 3 ++ read_roles m (enable b ∷ record { leaf = mode m.data_leaves b; high = false } ∷ []) b 0 m.data_leaves ++ sinks (1 + 2 * m.data_leaves)

abbrev pub roles_from : LeafMemory → ℕ → List MemoryPortKind → List Role
roles_from m b [] = []
roles_from m b (p ∷ ps) = port_roles m b p ++ roles_from m (b + port_size m.data_leaves p) ps

abbrev pub memory_roles : LeafMemory → List Role
memory_roles m = roles_from m m.first m.ports

-- what a port writes into the array of a data leaf
abbrev pub port_writings : ℕ → ℕ → ℕ → MemoryPortKind → List Writing
port_writings d i b reads = []
port_writings d i b writes = record {
  address = b;
  needs = enable b ∷ record { leaf = b + 3 + d + i; high = true } ∷ [];
  clock = b + 2;
  given = b + 3 + i;
} ∷ []
port_writings d i b reads_and_writes = record {
  address = b;
  needs = enable b ∷ record { leaf = mode d b; high = true } ∷ record { leaf = b + 4 + 2 * d + i; high = true } ∷ [];
  clock = b + 2;
  given = b + 4 + d + i;
} ∷ []

abbrev pub writings_from : ℕ → ℕ → ℕ → List MemoryPortKind → List Writing
writings_from d i b [] = []
writings_from d i b (p ∷ ps) = port_writings d i b p ++ writings_from d i (b + port_size d p) ps

-- the arrays, from that of a data leaf on, which hold what the leaves of the data do
abbrev pub arrays_from : LeafMemory → ℕ → List TypeLeaf → List LeafType → List LeafArray
arrays_from m i (l ∷ ls) (h ∷ hs) = record {
  declaration = m.declaration;
  path = named m.named.name ∷ l.path;
  holds = h;
  words = m.words;
  writings = writings_from m.data_leaves i m.first m.ports;
} ∷ arrays_from m (suc i) ls hs
arrays_from m i _ _ = []

abbrev pub clocks_from : ℕ → ℕ → List MemoryPortKind → List ℕ
clocks_from d b [] = []
clocks_from d b (p ∷ ps) = (b + 2) ∷ clocks_from d (b + port_size d p) ps

abbrev pub memory_declared : LeafMemory → MemoryDeclared
memory_declared m = record { declaration = m.declaration; port_clocks = clocks_from m.data_leaves m.first m.ports }
