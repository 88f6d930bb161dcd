-- A memory of a design by its statement: its arrays, and the leaves that show what is read (FIRRTL spec, "Memories").
use Rattle.std.specs.Prelude.{◌≡◌, ℕ, List, [], ◌∷◌, codes, flat_map, map}
use Rattle.fir_base.specs.Lists.{Distinct, In}
use Rattle.fir_bits.specs.declared.types.NumTy.{NumTy}
use Rattle.fir_ast.specs.declared.place.Place.{Place}
use Rattle.fir_ast.specs.Statements.{MemoryPart, PlacedName, memory}
use Rattle.fir_meaning.specs.MemoryPorts.{MemoryPortKind, reads, reads_and_writes, writes}
use Rattle.fir_meaning.specs.LeafTypes.{number}
use Rattle.fir_meaning.specs.LeafPaths.{LeafPath, named}
use Rattle.fir_meaning.specs.ModuleScenes.{Scene}
use Rattle.fir_meaning.specs.MemoryFaults.{read_latency_of_part}
use Rattle.fir_meaning.specs.MemoryTypes.{depth_of_part}
use Rattle.fir_meaning.specs.SourceCircuits.{PlacedArray, PlacedLeaf, all_arrays, all_leaves, array_path, paths_of, state_arrays, state_words}
use Rattle.fir_meaning.specs.SourceDesigns.{SourceDesign}
use Rattle.fir_meaning.specs.SourceRoles.{NamedPort, ports_of_part, source_arrays_in, sources_in}
use Rattle.fir_meaning.specs.Visibility.{Before}

-- a memory of the module of the instance at a path: its statement in the scene of that module
pub record Memory : Type 0 where
  pub design : SourceDesign
  pub at : LeafPath
  pub scene : Scene
  pub place : Place
  pub named : PlacedName
  pub parts : List MemoryPart

-- in the order of the text
abbrev pub ports : Memory → List NamedPort
ports m = flat_map ports_of_part m.parts

abbrev pub HasDepth : Memory → ℕ → Type 0
HasDepth m depth = flat_map depth_of_part m.parts ≡ depth ∷ []

abbrev pub HasLatency : Memory → ℕ → Type 0
HasLatency m latency = flat_map read_latency_of_part m.parts ≡ latency ∷ []

-- the array of the data leaf at a path; its path stands once among all arrays, and among those of the state
pub record IsArray (m : Memory) (q : LeafPath) (a : PlacedArray) : Type 0 where
  pub placed : a.at ≡ m.at
  pub path : a.array.path ≡ named m.named.name ∷ q
  pub declared : In (source_arrays_in m.scene (memory m.place m.named m.parts)) a.array
  pub among : In (all_arrays m.design) a
  pub once : Distinct (map array_path (all_arrays m.design))
  pub among_stored : In (state_arrays m.design) a
  pub once_stored : Distinct (map array_path (state_arrays m.design))

-- the field of a port that shows what is read
abbrev pub IsShown : MemoryPortKind → List ℕ → Type 0
IsShown reads field = field ≡ codes "data"
IsShown writes field = ⊥
IsShown reads_and_writes field = field ≡ codes "rdata"

-- the leaf of the design that shows the data leaf at a path, read by a port of which the name stands once
pub record IsRead (m : Memory) (port : NamedPort) (q : LeafPath) (p : PlacedLeaf) : Type 0 where
  pub is_port : In (ports m) port
  pub once : Distinct (map (λ (o : NamedPort). o.name) (ports m))
  pub field : List ℕ
  pub shown : IsShown port.kind field
  pub placed : p.at ≡ m.at
  pub path : p.leaf.path ≡ named m.named.name ∷ named port.name ∷ named field ∷ q
  pub before : Before
  pub declared : In (sources_in m.scene before (memory m.place m.named m.parts)) p.leaf
  pub among : In (all_leaves m.design) p
  pub width : NumTy
  pub holds : p.leaf.holds ≡ number width

-- and it is a word of the state, that of a pipe
pub record IsPipe (m : Memory) (port : NamedPort) (q : LeafPath) (p : PlacedLeaf) : Type 0 where
  pub read : IsRead m port q p
  pub latency : HasLatency m 1
  pub among_words : In (state_words m.design) p
  pub once : Distinct (paths_of (state_words m.design))
