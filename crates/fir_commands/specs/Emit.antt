-- The command `emit`: the Verilog of the circuit that the bytes spell.
use Rattle.std.specs.Prelude.{ℕ, List}
use Rattle.fir_ast.specs.Circuits.{CircuitTree}
use Rattle.fir_outcome.specs.Emits.{Emits, Takes}
use Rattle.fir_outcome.specs.Refusals.{Refuses}
use Rattle.fir_commands.specs.TextCommands.{TextMeaning}

-- a circuit that is taken is spelled
abbrev pub IsTaken : List ℕ → Type 0
IsTaken bytes = (c : CircuitTree) × Takes bytes c

abbrev pub emit_meaning : TextMeaning
emit_meaning = record { writes = Emits; refuses = Refuses; takes = IsTaken }
