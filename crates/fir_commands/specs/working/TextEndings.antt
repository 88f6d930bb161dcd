-- How the parts of a command that writes one text end: a put of the text, and all that is done with the bytes that were read.
-- A put that fails makes the status `Unwritten`, one that finds no memory `NoMemory`.
use Rattle.std.specs.Prelude.{◌≡◌, ℕ, List, ◌⊎◌, Result, Ok, Err}
use Rattle.fir_base.specs.declared.refused.Refused.{Refused}
use Rattle.fir_base.specs.declared.refused.Refused.TheVariants as refused
use Rattle.fir_ast.specs.declared.fault.FirFault.{FirFault}
use Rattle.fir_ast.specs.Faults.{fault_line}
use Rattle.fir_ast.specs.working.CodeFaults.{fault_of}
use Rattle.fir_io.specs.Ports.{SinkSeen, Rose, Grew, Kept, GrewByFront, Tried}
use Rattle.fir_cli.specs.declared.status.Status.{Status}
use Rattle.fir_cli.specs.declared.status.Status.TheVariants as status
use Rattle.fir_cli.specs.Messages.{unwritten_line, memory_line}
use Rattle.fir_commands.specs.TextCommands.{TextMeaning}

-- the text was put to the output, and what is due then to the error output
abbrev pub Written : List ℕ → SinkSeen → SinkSeen → SinkSeen → SinkSeen → Status → Type 0
Written text out out' err err' status.Done = Grew out out' text × (err' ≡ err)
Written text out out' err err' status.Unwritten =
    (Rose out.faults out'.faults × GrewByFront out out' text × Tried err err' unwritten_line)
    ⊎ (Kept out out' × Rose err.faults err'.faults × GrewByFront err err' memory_line)
Written text out out' err err' status.NoMemory = (Kept out out' ⊎ GrewByFront out out' text) × (Grew err err' memory_line ⊎ Kept err err')
Written text out out' err err' other = ⊥

-- a text that the command writes of the bytes, or the fault whose line refuses them, unless memory ran out
abbrev pub IsTextOf : TextMeaning → List ℕ → {A : Type 0} → (A → List ℕ) → Result A (Refused FirFault) → Type 0
IsTextOf k bytes view (Ok text) = k.writes bytes (view text)
IsTextOf k bytes view (Err (refused.Fault f)) = k.refuses bytes (fault_line (fault_of f))
IsTextOf k bytes view (Err refused.Memory) = Unit {0}

-- the text of the bytes was put, or they were refused
abbrev pub TextPut : TextMeaning → List ℕ → SinkSeen → SinkSeen → SinkSeen → SinkSeen → Status → Type 0
TextPut k bytes out out' err err' status.Done = (text : List ℕ) × k.writes bytes text × Grew out out' text × (err' ≡ err)
TextPut k bytes out out' err err' status.Refused = (line : List ℕ) × k.refuses bytes line × (out' ≡ out) × Grew err err' line
TextPut k bytes out out' err err' status.Unwritten =
    ((text : List ℕ) × k.writes bytes text × Rose out.faults out'.faults × GrewByFront out out' text × Tried err err' unwritten_line)
    ⊎ (Kept out out' × Rose err.faults err'.faults × (GrewByFront err err' memory_line ⊎ ((line : List ℕ) × k.refuses bytes line × GrewByFront err err' line)))
TextPut k bytes out out' err err' status.NoMemory =
    (Kept out out' ⊎ ((text : List ℕ) × k.writes bytes text × GrewByFront out out' text)) × (Grew err err' memory_line ⊎ Kept err err')
TextPut k bytes out out' err err' other = ⊥
