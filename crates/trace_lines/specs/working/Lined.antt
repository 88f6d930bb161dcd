-- How the ticks of a simulation end, and what the output holds then.
use Rattle.std.specs.Prelude.{◌≡◌, ℕ, List, ◌⊎◌}
use Rattle.fir_io.specs.Ports.{SinkSeen, Rose, Grew, GrewByFront}
use Rattle.trace_text.specs.TraceSpells.{TraceSpells}
use Rattle.trace_text.specs.BadLine.{BadLine}
use Rattle.trace_lines.specs.declared.lines.Finish.{Finish}
use Rattle.trace_lines.specs.declared.lines.Finish.TheVariants as finish
use Rattle.trace_lines.specs.declared.simulation.Lack.{Lack}
use Rattle.trace_lines.specs.declared.simulation.Stop.{Stop}
use Rattle.trace_lines.specs.declared.simulation.Stop.TheVariants as stop
use Rattle.trace_lines.specs.Saying.{Saying, SaysFront}

-- how the ticks end for that reason
abbrev pub finish_for : Stop → Finish
finish_for (stop.BadLine fault) = finish.BadLine fault
finish_for (stop.Lacking lack) = finish.Lacking lack

-- the lines are those of ticks at the front of the trace: of all of them, or of those before what ended them
abbrev pub Lined : List ℕ → (Saying → List ℕ → Type 0) → (List ℕ → Lack → List ℕ → Type 0) → SinkSeen → SinkSeen → Finish → Type 0
Lined trace Ran Lacked old new finish.AllRun = (printed : List ℕ) × Ran (TraceSpells trace) printed × Grew old new printed
Lined trace Ran Lacked old new (finish.BadLine fault) =
    (printed : List ℕ) × Ran (λ s init ticks. BadLine trace s init ticks fault) printed × Ran (SaysFront trace) printed × Grew old new printed
Lined trace Ran Lacked old new (finish.Lacking lack) =
    (printed : List ℕ) × Lacked trace lack printed × Ran (SaysFront trace) printed × Grew old new printed
Lined trace Ran Lacked old new finish.Unwritten = (printed : List ℕ) × Ran (SaysFront trace) printed × Rose old.faults new.faults × GrewByFront old new printed
Lined trace Ran Lacked old new finish.NoMemory = (printed : List ℕ) × Ran (SaysFront trace) printed × GrewByFront old new printed

-- the lines that were still gathered were put, or a front of them
abbrev pub RestPut : List ℕ → Finish → SinkSeen → SinkSeen → Finish → Type 0
RestPut lines due old new result =
    ((result ≡ due) × Grew old new lines)
    ⊎ ((result ≡ finish.Unwritten) × Rose old.faults new.faults × GrewByFront old new lines)
    ⊎ ((result ≡ finish.NoMemory) × GrewByFront old new lines)
