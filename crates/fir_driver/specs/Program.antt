-- What the program does for its words: what is said of the command that they ask for, and of words that are not taken.
use Rattle.std.specs.Prelude.{◌≡◌, ◌≢◌, ◌⊎◌, ℕ, List, Option, Some, None, String, IsTrue, Bool}
use Rattle.std.specs.declared.alloc.Global.{Global}
use Rattle.fir_io.specs.Ports.{Rose, Grew, Kept, GrewByFront}
use Rattle.fir_cli.specs.declared.status.Status.{Status}
use Rattle.fir_cli.specs.declared.status.Status.TheVariants as status
use Rattle.trace_command.specs.Simulates.{SimulationFiles, Simulates}
use Rattle.trace_command.specs.SimulationAnswers.{SimulationComplete}
use Rattle.fir_words.specs.Commands.{Command, Simulated, SimulatedVerilog, asked_by, check, emit, sim, vsim}
use Rattle.fir_cli.specs.Messages.{memory_line, usage_line}
use Rattle.fir_cli.specs.Outside.{Outside, NoneFailed}
use Rattle.fir_commands.specs.TextCommands.{PutsText}
use Rattle.fir_commands.specs.TextAnswers.{TextComplete}
use Rattle.fir_commands.specs.Check.{check_meaning}
use Rattle.fir_commands.specs.Emit.{emit_meaning}
use Rattle.fir_commands.specs.Sim.{sim_meaning}
use Rattle.ver_command.specs.Vsim.{vsim_meaning}
use Rattle.fir_driver.specs.Emitted.{PrintsEmitted}

-- the files of a simulation
abbrev pub files_of : Simulated → SimulationFiles
files_of s = record { source = s.circuit; trace = s.trace }

abbrev pub verilog_files_of : SimulatedVerilog → SimulationFiles
verilog_files_of s = record { source = s.verilog; trace = s.trace }

-- the files that a command names may be asked
abbrev pub MayAskFor : Option Command → (List ℕ → Bool) → Type 0
MayAskFor None may = Unit {0}
MayAskFor (Some (check name)) may = IsTrue (may name)
MayAskFor (Some (emit name)) may = IsTrue (may name)
MayAskFor (Some (sim s)) may = IsTrue (may s.circuit) × IsTrue (may s.trace)
MayAskFor (Some (vsim s)) may = IsTrue (may s.verilog) × IsTrue (may s.trace)

abbrev pub MayAsk : List (String Global) → (List ℕ → Bool) → Type 0
MayAsk words = MayAskFor (asked_by words)

-- words that are not taken: the usage line is due, or the line on memory where that was wanting to read the words
abbrev pub NotTaken : Outside → Outside → Status → Type 0
NotTaken before after status.Usage = (after.out ≡ before.out) × Grew before.err after.err usage_line
NotTaken before after status.Unwritten =
    (after.out ≡ before.out) × Rose before.err.faults after.err.faults
    × (GrewByFront before.err after.err usage_line ⊎ GrewByFront before.err after.err memory_line)
NotTaken before after status.NoMemory = (after.out ≡ before.out) × (Grew before.err after.err memory_line ⊎ Kept before.err after.err)
NotTaken before after _ = ⊥

abbrev pub DoesFor : Option Command → Outside → Outside → Status → Type 0
DoesFor None before after ending = NotTaken before after ending
DoesFor (Some (check name)) before after ending = PutsText check_meaning name before after ending
DoesFor (Some (emit name)) before after ending = PutsText emit_meaning name before after ending
DoesFor (Some (sim s)) before after ending = Simulates (sim_meaning s.with_state) (files_of s) before after ending
DoesFor (Some (vsim s)) before after ending =
    Simulates (vsim_meaning s.with_state s.order) (verilog_files_of s) before after ending × PrintsEmitted s before after ending

abbrev pub Does : List (String Global) → Outside → Outside → Status → Type 0
Does words = DoesFor (asked_by words)

-- which status comes, where memory is there and no read or write fails
abbrev pub AnswersFor : Option Command → Outside → Outside → ℕ → Type 0
AnswersFor None before after answer = answer ≢ 5 → NoneFailed before after → answer ≡ 2
AnswersFor (Some (check name)) before after answer = TextComplete check_meaning name before after answer
AnswersFor (Some (emit name)) before after answer = TextComplete emit_meaning name before after answer
AnswersFor (Some (sim s)) before after answer = SimulationComplete (sim_meaning s.with_state) (files_of s) before after answer
AnswersFor (Some (vsim s)) before after answer = SimulationComplete (vsim_meaning s.with_state s.order) (verilog_files_of s) before after answer

abbrev pub Answers : List (String Global) → Outside → Outside → ℕ → Type 0
Answers words = AnswersFor (asked_by words)
