-- What is read of a memory (FIRRTL spec, "Memories").
-- Without latency the word shows at once; with it a pipe takes the word at an edge of the port's clock: the word before the writes of the tick, or, where
-- new data is read under a write, the word behind all of them. A port that reads nothing gives zero.
use Rattle.std.specs.Prelude.{◌≡◌, ℕ, List, [], ◌∷◌, flat_map, ◌⊎◌}
use Rattle.fir_base.specs.Ticks.{Tick}
use Rattle.fir_ast.specs.declared.statements.ReadUnderWrite.TheVariants.{New, Old, Undefined}
use Rattle.fir_meaning.specs.LeafPaths.{LeafPath}
use Rattle.fir_meaning.specs.MemoryFaults.{read_under_write_of_part}
use Rattle.fir_meaning.specs.SourceAllows.{Settled}
use Rattle.fir_meaning.specs.SourceCircuits.{PlacedArray, PlacedLeaf, array_path, leaf_path}
use Rattle.fir_meaning.specs.SourceRoles.{NamedPort}
use Rattle.fir_meaning.specs.SourceValues.{PathEnv, word_before, word_of}
use Rattle.fir_source_laws.specs.working.MemoryLeaves.{HasDepth, HasLatency, IsArray, IsPipe, IsRead, Memory}
use Rattle.fir_source_laws.specs.working.MemoryPorts.{Reads, ReadsNothing, address_of, clock_on}
use Rattle.fir_source_laws.specs.working.StateWords.{HasEdge, array_behind_tick, word_behind_tick}

-- new data is read under a write; else old data, or what the text leaves open
abbrev pub ReadsNew : Memory → Type 0
ReadsNew m = flat_map read_under_write_of_part m.parts ≡ New ∷ []

abbrev pub ReadsOld : Memory → Type 0
ReadsOld m =
    (flat_map read_under_write_of_part m.parts ≡ Old ∷ []) ⊎ (flat_map read_under_write_of_part m.parts ≡ Undefined ∷ [])
    ⊎ (flat_map read_under_write_of_part m.parts ≡ [])

module _ (m : Memory) (depth : ℕ) (port : NamedPort) (q : LeafPath) (a : PlacedArray) (p : PlacedLeaf) where
  -- at once
  module _ (state : List ℕ) (tick : Tick) (env : PathEnv) where
    abbrev pub ShowsWord : Type 0
    ShowsWord =
        HasDepth m depth → HasLatency m 0 → IsArray m q a → IsRead m port q p → Settled m.design state tick env → Reads m env depth port
        → env.numbers (leaf_path p) ≡ word_before m.design state (array_path a) (address_of m env port)

    abbrev pub ShowsZero : Type 0
    ShowsZero =
        HasDepth m depth → HasLatency m 0 → IsArray m q a → IsRead m port q p → Settled m.design state tick env → ReadsNothing m env depth port
        → env.numbers (leaf_path p) ≡ 0

    -- a pipe shows what it took
    abbrev pub ShowsPipe : Type 0
    ShowsPipe = IsPipe m port q p → Settled m.design state tick env → env.numbers (leaf_path p) ≡ word_of m.design env state (leaf_path p)

  -- through a pipe
  module _ (state edges : List ℕ) (env : PathEnv) where
    abbrev pub Becomes : ℕ → Type 0
    Becomes v = word_behind_tick m.design state edges env (leaf_path p) ≡ v

    abbrev pub PipesZero : Type 0
    PipesZero =
        HasDepth m depth → IsArray m q a → IsPipe m port q p → HasEdge edges (clock_on m env port.name) → ReadsNothing m env depth port → Becomes 0

    abbrev pub PipesTheOldWord : Type 0
    PipesTheOldWord =
        HasDepth m depth → ReadsOld m → IsArray m q a → IsPipe m port q p → HasEdge edges (clock_on m env port.name) → Reads m env depth port
        → Becomes (word_before m.design state (array_path a) (address_of m env port))

    abbrev pub PipesTheNewWord : Type 0
    PipesTheNewWord =
        HasDepth m depth → ReadsNew m → IsArray m q a → IsPipe m port q p → HasEdge edges (clock_on m env port.name) → Reads m env depth port
        → Becomes (array_behind_tick m.design state edges env (array_path a) (address_of m env port))

    abbrev pub PipeKeeps : Type 0
    PipeKeeps = IsPipe m port q p → (HasEdge edges (clock_on m env port.name) → ⊥) → Becomes (word_of m.design env state (leaf_path p))

-- of every read leaf of a memory, at every tick
abbrev pub OfShown : (Memory → ℕ → NamedPort → LeafPath → PlacedArray → PlacedLeaf → List ℕ → Tick → PathEnv → Type 0) → Type 0
OfShown Law =
    (m : Memory) (depth : ℕ) (port : NamedPort) (q : LeafPath) (a : PlacedArray) (p : PlacedLeaf) (state : List ℕ) (tick : Tick) (env : PathEnv)
    → Law m depth port q a p state tick env

abbrev pub OfPipes : (Memory → ℕ → NamedPort → LeafPath → PlacedArray → PlacedLeaf → List ℕ → List ℕ → PathEnv → Type 0) → Type 0
OfPipes Law =
    (m : Memory) (depth : ℕ) (port : NamedPort) (q : LeafPath) (a : PlacedArray) (p : PlacedLeaf) (state edges : List ℕ) (env : PathEnv)
    → Law m depth port q a p state edges env
