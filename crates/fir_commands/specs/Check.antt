-- The command `check`: how many leaves, registers and memories the circuit has that the bytes spell.
use Rattle.fir_outcome.specs.Checks.{Checks}
use Rattle.fir_outcome.specs.Refusals.{Refuses}
use Rattle.fir_commands.specs.Emit.{IsTaken}
use Rattle.fir_commands.specs.TextCommands.{TextMeaning}

abbrev pub check_meaning : TextMeaning
check_meaning = record { writes = Checks; refuses = Refuses; takes = IsTaken }
