-- What the ports of a memory do at a tick (FIRRTL spec, "Memories").
-- A port writes a leaf of the data at an edge of its clock while its enable, the leaf's mask and a readwriter's mode are 1. It reads while its enable is 1
-- and a readwriter's mode is 0, at an address below the depth.
use Rattle.std.specs.Prelude.{◌≡◌, ℕ, ◌<◌, ◌≤◌, List, [], ◌∷◌, ◌++◌, codes, ◌⊎◌, Option}
use Rattle.fir_base.specs.Lists.{In}
use Rattle.fir_meaning.specs.MemoryPorts.{MemoryPortKind, reads, reads_and_writes, writes}
use Rattle.fir_meaning.specs.LeafPaths.{LeafPath, named}
use Rattle.fir_meaning.specs.SourceRoles.{NamedPort}
use Rattle.fir_meaning.specs.SourceValues.{PathEnv}
use Rattle.fir_source_laws.specs.working.StateWords.{HasEdge}
use Rattle.fir_source_laws.specs.working.MemoryLeaves.{Memory}

module _ (m : Memory) (env : PathEnv) where
  -- of a leaf of a field of a port
  abbrev pub number_on : List ℕ → List ℕ → LeafPath → ℕ
  number_on port field q = env.numbers (m.at ++ named m.named.name ∷ named port ∷ named field ∷ q)

  abbrev pub clock_on : List ℕ → Option ℕ
  clock_on port = env.clocks (m.at ++ named m.named.name ∷ named port ∷ named (codes "clk") ∷ [])

  abbrev pub enable : NamedPort → ℕ
  enable port = number_on port.name (codes "en") []

  abbrev pub address_of : NamedPort → ℕ
  address_of port = number_on port.name (codes "addr") []

  abbrev pub mode : NamedPort → ℕ
  mode port = number_on port.name (codes "wmode") []

  -- the mask and the data of the leaf at a path, by the kind of the port
  abbrev pub mask_of : MemoryPortKind → List ℕ → LeafPath → ℕ
  mask_of reads port q = 0
  mask_of writes port q = number_on port (codes "mask") q
  mask_of reads_and_writes port q = number_on port (codes "wmask") q

  abbrev pub data_of : MemoryPortKind → List ℕ → LeafPath → ℕ
  data_of reads port q = 0
  data_of writes port q = number_on port (codes "data") q
  data_of reads_and_writes port q = number_on port (codes "wdata") q

  abbrev pub MayWrite : MemoryPortKind → ℕ → Type 0
  MayWrite reads mode = ⊥
  MayWrite writes mode = Unit {0}
  MayWrite reads_and_writes mode = mode ≡ 1

  abbrev pub MayRead : MemoryPortKind → ℕ → Type 0
  MayRead reads mode = Unit {0}
  MayRead writes mode = ⊥
  MayRead reads_and_writes mode = mode ≡ 0

  -- a port writes the leaf of the data at an address
  pub record Writes (edges : List ℕ) (q : LeafPath) (port : NamedPort) (address : ℕ) : Type 0 where
    pub edge : HasEdge edges (clock_on port.name)
    pub enabled : enable port ≡ 1
    pub allowed : MayWrite port.kind (mode port)
    pub unmasked : mask_of port.kind port.name q ≡ 1
    pub addressed : address_of port ≡ address

  -- none of these ports does
  abbrev pub NoneWrites : List ℕ → LeafPath → List NamedPort → ℕ → Type 0
  NoneWrites edges q among address = (o : NamedPort) → In among o → Writes edges q o address → ⊥

  -- a port reads a word
  pub record Reads (depth : ℕ) (port : NamedPort) : Type 0 where
    pub enabled : enable port ≡ 1
    pub allowed : MayRead port.kind (mode port)
    pub within : address_of port < depth

  -- or it reads none: it is not enabled, a readwriter writes, or its address is past the depth
  abbrev pub ReadsNothing : ℕ → NamedPort → Type 0
  ReadsNothing depth port = (enable port ≡ 0) ⊎ ((port.kind ≡ reads_and_writes) × (mode port ≡ 1)) ⊎ (depth ≤ address_of port)
