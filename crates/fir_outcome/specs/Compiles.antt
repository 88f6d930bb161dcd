-- When a Verilog tree is what a circuit compiles to.
-- It is named after the circuit; its items are arranged, with a block for just those registers that have an asynchronous reset, or that have a clock and that a
-- statement of the circuit may drive or a reset sets; it is valid; and at every tick it allows what the circuit's source allows, so that their runs are equal. From each state of their shape, through all ticks of it, each has
-- exactly one run.
use Rattle.std.specs.Prelude.{◌≡◌, ◌↔◌, ℕ, List, Option}
use Rattle.fir_base.specs.Ticks.{Tick, TickResult}
use Rattle.ver_ast.specs.declared.tree.Verilog.{Verilog}
use Rattle.ver_ast.specs.Valid.{Valid}
use Rattle.ver_ast.specs.Nets.{shape as v_shape}
use Rattle.ver_ast.specs.Allows.{VOne, VAllows, VRun}
use Rattle.fir_ast.specs.Circuits.{CircuitTree}
use Rattle.fir_meaning.specs.Elaborated.{IsSourceOf}
use Rattle.fir_meaning.specs.SourceAllows.{Allows}
use Rattle.fir_meaning.specs.SourceCircuits.{source_shape, state_words}
use Rattle.fir_meaning.specs.SourceDesigns.{SourceDesign}
use Rattle.fir_meaning.specs.SourceOne.{One}
use Rattle.ver_build.specs.NamedFor.{IsNamedFor}
use Rattle.ver_build.specs.Arranged.{IsArranged}
use Rattle.fir_flatten.specs.SourceRows.{source_array_rows, source_rows, source_words}
use Rattle.fir_flatten.specs.BlockWords.{HaveBlocks}
use Rattle.fir_outcome.specs.Runs.{RunsOnce}
use Rattle.fir_outcome.specs.Sources.{SourceRun}

-- in a circuit of that name, whose source is this tree
pub record CompilesTo (name : List ℕ) (t : SourceDesign) (v : Verilog) : Type 0 where
  pub named : IsNamedFor name (source_rows t) (source_words t) (source_array_rows t) v
  pub shapes : v_shape v ≡ source_shape t
  pub one : One t
  pub allows :
      (state : List ℕ) (tick : Tick) (shown : List ℕ) (clocks : List (Option ℕ)) (after : List ℕ)
      → VAllows v state tick shown clocks after ↔ Allows t state tick shown clocks after
  pub runs : (state : List ℕ) (ticks : List Tick) (shown : List TickResult) → VRun v state ticks shown ↔ SourceRun t state ticks shown
  pub runs_once : RunsOnce (source_shape t) (Allows t)

pub record Compiles (c : CircuitTree) (v : Verilog) : Type 0 where
  pub arranged : IsArranged v
  pub with_blocks : (t : SourceDesign) → IsSourceOf c t → HaveBlocks t arranged.with_block (state_words t)
  pub valid : Valid v
  pub v_one : VOne v
  pub v_runs_once : RunsOnce (v_shape v) (VAllows v)
  -- the circuit has a source, and whichever it is, the tree means it
  pub source : SourceDesign
  pub is_source : IsSourceOf c source
  pub each : (t : SourceDesign) → IsSourceOf c t → CompilesTo c.named.name t v
