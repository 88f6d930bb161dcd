-- What `vsim` prints of the text that `emit` writes: what `sim` prints of the circuit.
use Rattle.std.specs.Prelude.{◌≡◌, ℕ, List, None}
use Rattle.fir_io.specs.Ports.{Grew}
use Rattle.trace_text.specs.TraceSpells.{TraceSpells}
use Rattle.trace_lines.specs.Saying.{SaysBadly}
use Rattle.fir_cli.specs.declared.status.Status.{Status}
use Rattle.fir_cli.specs.declared.status.Status.TheVariants as status
use Rattle.fir_cli.specs.Outside.{IsRead, Outside, Tells}
use Rattle.fir_outcome.specs.Emits.{Emits}
use Rattle.fir_outcome.specs.Simulations.{Prints}
use Rattle.fir_words.specs.Commands.{SimulatedVerilog}

-- the lines are those of the circuit of this text, and no item lacks a value
abbrev pub CircuitPrints : List ℕ → SimulatedVerilog → Outside → Outside → Status → Type 0
CircuitPrints text s before after status.Done =
    (trace : List ℕ) × (printed : List ℕ) × IsRead s.trace before trace × Prints text s.with_state (TraceSpells trace) printed × Grew before.out after.out printed
CircuitPrints text s before after status.BadTrace =
    (trace : List ℕ) × (line : List ℕ) × (printed : List ℕ) × IsRead s.trace before trace × Prints text s.with_state (SaysBadly trace line) printed
    × Grew before.out after.out printed
CircuitPrints text s before after status.BadVerilog = ⊥
CircuitPrints text s before after other = Unit {0}

-- without an order, where the Verilog is what is emitted of a circuit's text
abbrev pub PrintsEmitted : SimulatedVerilog → Outside → Outside → Status → Type 0
PrintsEmitted s before after ending =
    s.order ≡ None → (text written : List ℕ) → Emits text written → Tells before s.verilog written → CircuitPrints text s before after ending
