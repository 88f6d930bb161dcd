-- What is kept from tick to tick (FIRRTL spec, "Registers", "Memories").
-- A word that is written is read until it is written again; a register holds its word until an edge or an asynchronous reset; what a pipe took is shown at
-- the next tick.
use Rattle.std.specs.Prelude.{◌≡◌, ℕ, ◌<◌, List, [], ◌∷◌, ◌++◌, true, Option}
use Rattle.fir_base.specs.Lists.{In}
use Rattle.fir_base.specs.Ticks.{Tick}
use Rattle.fir_ast.specs.Expressions.{Expression}
use Rattle.fir_meaning.specs.LeafPaths.{LeafPath}
use Rattle.fir_meaning.specs.SourceAllows.{Settled, next}
use Rattle.fir_meaning.specs.SourceCircuits.{PlacedArray, PlacedLeaf, array_path, leaf_path}
use Rattle.fir_meaning.specs.SourceDesigns.{SourceDesign}
use Rattle.fir_meaning.specs.SourceRoles.{NamedPort, SourceReset}
use Rattle.fir_meaning.specs.SourceValues.{PathEnv, word_before, word_of}
use Rattle.fir_meaning.specs.TypedScopes.{TypedScope}
use Rattle.fir_source_laws.specs.working.MemoryLeaves.{HasDepth, HasLatency, IsArray, IsPipe, IsRead, Memory, ports}
use Rattle.fir_source_laws.specs.working.MemoryPorts.{NoneWrites, Reads, Writes, address_of, clock_on, data_of}
use Rattle.fir_source_laws.specs.working.ReadLaws.{ReadsOld}
use Rattle.fir_source_laws.specs.working.RegisterLaws.{IsClocked, IsRegister, IsReset}
use Rattle.fir_source_laws.specs.working.StateWords.{HasEdge}

-- the clocks that rise at a tick, and the values of the leaves
pub record Valued : Type 0 where
  pub edges : List ℕ
  pub env : PathEnv

-- the state behind some ticks
abbrev pub state_behind : SourceDesign → List ℕ → List Valued → List ℕ
state_behind t state [] = state
state_behind t state (v ∷ vs) = state_behind t (next t state v.edges v.env) vs

-- a port writes, at some ticks none does, and then a port reads at once: it shows what was written
abbrev pub IsReadUntilWrittenAgain : Type 0
IsReadUntilWrittenAgain =
    (m : Memory) (depth : ℕ) (q : LeafPath) (a : PlacedArray) (address : ℕ) → HasDepth m depth → IsArray m q a → address < depth
    → (state : List ℕ) (first : Valued) (before later : List NamedPort) (writer : NamedPort) → ports m ≡ before ++ writer ∷ later
    → Writes m first.env first.edges q writer address → NoneWrites m first.env first.edges q later address
    → (between : List Valued) → ((v : Valued) → In between v → NoneWrites m v.env v.edges q (ports m) address)
    → (tick : Tick) (env : PathEnv) → Settled m.design (state_behind m.design state (first ∷ between)) tick env
    → (reader : NamedPort) (p : PlacedLeaf) → HasLatency m 0 → IsRead m reader q p → Reads m env depth reader → address_of m env reader ≡ address
    → env.numbers (leaf_path p) ≡ data_of m first.env writer.kind writer.name q

-- a pipe takes the old word at an edge, and shows it at the next tick
abbrev pub ReadsATickLater : Type 0
ReadsATickLater =
    (m : Memory) (depth : ℕ) (q : LeafPath) (a : PlacedArray) (port : NamedPort) (p : PlacedLeaf) → HasDepth m depth → ReadsOld m → IsArray m q a
    → IsPipe m port q p
    → (state : List ℕ) (first : Valued) → HasEdge first.edges (clock_on m first.env port.name) → Reads m first.env depth port
    → (tick : Tick) (env : PathEnv) → Settled m.design (next m.design state first.edges first.env) tick env
    → env.numbers (leaf_path p) ≡ word_before m.design state (array_path a) (address_of m first.env port)

-- at some ticks a register has neither an edge nor an asynchronous reset
abbrev pub HoldsUntilEdge : Type 0
HoldsUntilEdge =
    (t : SourceDesign) (p : PlacedLeaf) (scope : TypedScope) (clock : Expression) (q : LeafPath) (reset : Option SourceReset)
    → IsRegister t p scope clock reset q
    → (state : List ℕ) (ticks : List Valued)
    → ((v : Valued) → In ticks v → (IsClocked t p scope clock q v.edges v.env → ⊥) × (IsReset t v.env p.at reset true → ⊥))
    → (tick : Tick) (env : PathEnv) → Settled t (state_behind t state ticks) tick env → (IsReset t env p.at reset true → ⊥)
    → env.numbers (leaf_path p) ≡ word_of t env state (leaf_path p)
