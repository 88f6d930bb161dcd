-- Blocks by number, and what they write.
use Rattle.std.specs.Prelude.{◌≡◌, ℕ, ◌<◌, ◌≤◌, ◌==◌, List, [], ◌∷◌, map, flat_map, length, slice_index, if◌then◌else◌, Option, Some, None}
use Rattle.fir_base.specs.Lists.{In}
use Rattle.fir_base.specs.Ticks.{Env, rises}
use Rattle.ver_ast.specs.declared.tree.Verilog.{Verilog}
use Rattle.ver_ast.specs.declared.tree.Edge.{Edge}
use Rattle.ver_ast.specs.declared.tree.Write.{Write}
use Rattle.ver_ast.specs.Atoms.{AtomTree}
use Rattle.ver_ast.specs.Nets.{nets, clocks, variables, AlwaysBlock}
use Rattle.ver_ast.specs.Next.{Put, acts, puts}
use Rattle.ver_ast.specs.SoundSides.{IsSound}
use Rattle.ver_ast.specs.Valid.{IsWrite}
use Rattle.ver_order.specs.working.Laws.{FitNets}
use Rattle.ver_sim.specs.declared.blocks.EdgeTask.{EdgeTask}
use Rattle.ver_sim.specs.declared.blocks.WriteTask.{WriteTask}
use Rattle.ver_sim.specs.declared.blocks.BlockTask.{BlockTask}
use Rattle.ver_sim.specs.declared.blocks.BlockTask.TheVariants as block
use Rattle.ver_sim.specs.working.Valued.{env_of}
use Rattle.ver_sim.specs.working.Operands.{operand_number, IsOperandOf}
use Rattle.ver_sim.specs.working.FlatStates.{base_of, depth_of, flat, FlatPut}
use Rattle.ver_sim.specs.working.Pairs.{EachPair}
use Rattle.ver_sim.specs.ClocksShown.{ClocksShown}

-- in order, each number at most those behind it
abbrev pub IsRising : List ℕ → Type 0
IsRising xs = (i j : ℕ) → i ≤ j → j < length xs → slice_index xs i ≤ slice_index xs j

-- of the one word at a place of the state
abbrev pub word_put : ℕ → ℕ → FlatPut
word_put place word = record { base = place; depth = 1; place = 0; word = word }

abbrev pub write_puts : List ℕ → WriteTask → List FlatPut
write_puts values w =
    if operand_number values w.condition == 1
    then (record { base = w.base; depth = w.depth; place = operand_number values w.index; word = operand_number values w.source } ∷ [])
    else []

abbrev pub edge_puts : List ℕ → List ℕ → ℕ → EdgeTask → List FlatPut
edge_puts named values word e = if rises named e.clock then (word_put word (operand_number values e.source) ∷ []) else []

abbrev pub some_edge_puts : List ℕ → List ℕ → ℕ → Option EdgeTask → List FlatPut
some_edge_puts named values word None = []
some_edge_puts named values word (Some e) = edge_puts named values word e

-- what a block writes where these clocks are named
abbrev pub block_puts : List ℕ → List ℕ → BlockTask → List FlatPut
block_puts named values (block.Plain word edge) = edge_puts named values word edge
block_puts named values (block.Resetting reset value word edge) =
    if slice_index values reset == 1 then (word_put word value ∷ []) else some_edge_puts named values word edge
block_puts named values (block.Writing clock writes) = if rises named clock then flat_map (write_puts values) writes.items else []

abbrev pub all_block_puts : List ℕ → List ℕ → List BlockTask → List FlatPut
all_block_puts named values tasks = flat_map (block_puts named values) tasks

-- what a block of the tree writes, nothing where it does not act
abbrev pub acted : Verilog → List ℕ → Env → AlwaysBlock → List Put
acted v named env b = if acts named env b then puts (nets v) env b else []

-- the task writes what the block writes
pub record IsBlockTaskOf (v : Verilog) (t : BlockTask) (b : AlwaysBlock) : Type 0 where
  pub writes : (named values : List ℕ) → FitNets v (env_of v values) → ClocksShown v (env_of v values)
      → block_puts named values t ≡ map (flat (variables v)) (acted v named (env_of v values) b)

abbrev pub AreBlockTasks : Verilog → List BlockTask → List AlwaysBlock → Type 0
AreBlockTasks v = EachPair (IsBlockTaskOf v)

-- what a register takes at an edge of the clock
pub record IsEdgeTaskOf (v : Verilog) (e : EdgeTask) (clock : List ℕ) (source : AtomTree) : Type 0 where
  pub clock_is : (env : Env) → ClocksShown v env → e.clock ≡ env clock
  pub source_is : IsOperandOf v e.source source

abbrev pub AreEdgeTasks : Verilog → Option EdgeTask → Option Edge → Type 0
AreEdgeTasks v None None = Unit {0}
AreEdgeTasks v (Some t) (Some e) = IsEdgeTaskOf v t e.clock e.source
AreEdgeTasks v _ _ = ⊥

-- a clock, and a sound source
abbrev pub HasSoundEdge : Verilog → Option Edge → Type 0
HasSoundEdge v None = Unit {0}
HasSoundEdge v (Some e) = In (clocks v) e.clock × IsSound (nets v) e.source

-- a write of one of the arrays
abbrev pub IsSomeWrite : Verilog → Write → Type 0
IsSomeWrite v w = IsWrite v w.array w

pub record IsWriteTaskOf (v : Verilog) (t : WriteTask) (w : Write) : Type 0 where
  pub base_is : t.base ≡ base_of (variables v) w.array
  pub depth_is : t.depth ≡ depth_of (variables v) w.array
  pub condition_is : IsOperandOf v t.condition w.condition
  pub index_is : IsOperandOf v t.index w.index
  pub source_is : IsOperandOf v t.source w.source
