-- What the words of a memory are behind a tick (FIRRTL spec, "Memories").
-- The last port of the text that writes at an address gives its word; a word at which no port writes stays, also where a mask is 0, a clock has no edge or an
-- address is past the depth.
use Rattle.std.specs.Prelude.{◌≡◌, ℕ, ◌<◌, ◌≤◌, List, ◌∷◌, ◌++◌, ◌⊎◌}
use Rattle.fir_base.specs.Lists.{In}
use Rattle.fir_meaning.specs.LeafPaths.{LeafPath}
use Rattle.fir_meaning.specs.SourceCircuits.{PlacedArray, array_path}
use Rattle.fir_meaning.specs.SourceRoles.{NamedPort}
use Rattle.fir_meaning.specs.SourceValues.{PathEnv, word_before}
use Rattle.fir_source_laws.specs.working.MemoryLeaves.{HasDepth, IsArray, Memory, ports}
use Rattle.fir_source_laws.specs.working.MemoryPorts.{NoneWrites, Writes, address_of, clock_on, data_of, mask_of}
use Rattle.fir_source_laws.specs.working.StateWords.{HasEdge, array_behind_tick}

module _ (m : Memory) (state edges : List ℕ) (env : PathEnv) where
  abbrev pub Keeps : PlacedArray → ℕ → Type 0
  Keeps a address = array_behind_tick m.design state edges env (array_path a) address ≡ word_before m.design state (array_path a) address

  abbrev pub Takes : PlacedArray → ℕ → ℕ → Type 0
  Takes a address v = array_behind_tick m.design state edges env (array_path a) address ≡ v

  module _ (depth : ℕ) (q : LeafPath) (a : PlacedArray) (address : ℕ) where
    -- a port writes, and none behind it
    abbrev pub TakesTheLastWrite : Type 0
    TakesTheLastWrite =
        (before later : List NamedPort) (port : NamedPort) → HasDepth m depth → IsArray m q a → address < depth → ports m ≡ before ++ port ∷ later
        → Writes m env edges q port address → NoneWrites m env edges q later address
        → Takes a address (data_of m env port.kind port.name q)

    -- of two writes, readers, writers and readwriters among each other
    abbrev pub TakesTheLaterWrite : Type 0
    TakesTheLaterWrite =
        (before between later : List NamedPort) (first second : NamedPort) → HasDepth m depth → IsArray m q a → address < depth
        → ports m ≡ before ++ first ∷ between ++ second ∷ later
        → Writes m env edges q first address → Writes m env edges q second address → NoneWrites m env edges q later address
        → Takes a address (data_of m env second.kind second.name q)

    abbrev pub StaysUnwritten : Type 0
    StaysUnwritten = HasDepth m depth → IsArray m q a → address < depth → NoneWrites m env edges q (ports m) address → Keeps a address

    -- no port has both an edge of its clock and an address below the depth
    abbrev pub StaysWithoutEdgeOrPastDepth : Type 0
    StaysWithoutEdgeOrPastDepth =
        HasDepth m depth → IsArray m q a → address < depth
        → ((o : NamedPort) → In (ports m) o → (HasEdge edges (clock_on m env o.name) → ⊥) ⊎ (depth ≤ address_of m env o))
        → Keeps a address

    -- a port writes the leaf at q and masks another: that keeps its word, and this takes its data
    abbrev pub MaskedKeeps : Type 0
    MaskedKeeps =
        (masked : LeafPath) (b : PlacedArray) (before later : List NamedPort) (port : NamedPort) → HasDepth m depth → IsArray m q a → IsArray m masked b
        → address < depth → ports m ≡ before ++ port ∷ later
        → ((leaf : LeafPath) → NoneWrites m env edges leaf (before ++ later) address)
        → Writes m env edges q port address → mask_of m env port.kind port.name masked ≡ 0
        → Takes a address (data_of m env port.kind port.name q) × Keeps b address

-- of every memory, tick and address
abbrev pub OfWrites : ((m : Memory) → List ℕ → List ℕ → PathEnv → ℕ → LeafPath → PlacedArray → ℕ → Type 0) → Type 0
OfWrites Law =
    (m : Memory) (state edges : List ℕ) (env : PathEnv) (depth : ℕ) (q : LeafPath) (a : PlacedArray) (address : ℕ) → Law m state edges env depth q a address
