-- What stands outside the program at a moment, and what may be said of it whatever the command.
use Rattle.std.specs.Prelude.{◌≡◌, ℕ, ◌<◌, ◌≤◌, List, length, Some, IfSome, ◌⊎◌}
use Rattle.fir_io.specs.Ports.{FilesSeen, SinkSeen, Rose, Grew, Kept, GrewByFront, Tried}
use Rattle.fir_cli.specs.declared.status.Status.{Status}
use Rattle.fir_cli.specs.declared.status.Status.TheVariants as status
use Rattle.fir_cli.specs.Messages.{unwritten_line, memory_line}

-- the most bytes of a file that are taken
abbrev pub limit : ℕ
limit = 16777216

abbrev pub code : Status → ℕ
code status.Done = 0
code status.Refused = 1
code status.Usage = 2
code status.Unread = 3
code status.Unwritten = 4
code status.NoMemory = 5
code status.BadTrace = 6
code status.BadVerilog = 7
code status.TooLong = 8

-- the files, the output and the error output at a moment
pub record Outside : Type 0 where
  pub files : FilesSeen
  pub out : SinkSeen
  pub err : SinkSeen

abbrev pub outside : FilesSeen → SinkSeen → SinkSeen → Outside
outside files out err = record { files = files; out = out; err = err }

-- bytes that were read whole from the file of that name: its told content, where that is told
pub record IsRead (name : List ℕ) (before : Outside) (bytes : List ℕ) : Type 0 where
  pub told : IfSome (before.files.told name) (λ content. bytes ≡ content)
  pub short : length bytes ≤ limit

-- the file of that name has this content, which is short enough
pub record Tells (before : Outside) (name bytes : List ℕ) : Type 0 where
  pub told : before.files.told name ≡ Some bytes
  pub short : length bytes ≤ limit

-- the file of that name has a content that is too long
pub record TellsTooMuch (before : Outside) (name : List ℕ) : Type 0 where
  pub bytes : List ℕ
  pub told : before.files.told name ≡ Some bytes
  pub long : limit < length bytes

-- no count of faults rose in the call
pub record NoneFailed (before after : Outside) : Type 0 where
  pub files : Rose before.files.faults after.files.faults → ⊥
  pub out : Rose before.out.faults after.out.faults → ⊥
  pub err : Rose before.err.faults after.err.faults → ⊥

-- the output failed where the command had come so far, and the line on it was tried on the error output
abbrev pub OutFailed : Type 0 → Outside → Outside → Type 0
OutFailed Came before after = Came × Rose before.out.faults after.out.faults × Tried before.err after.err unwritten_line

-- the error output failed while a line was put that was due
abbrev pub ErrFailed : (List ℕ → Type 0) → Outside → Outside → Type 0
ErrFailed IsDue before after = (line : List ℕ) × Rose before.err.faults after.err.faults × GrewByFront before.err after.err line × IsDue line

-- memory was wanted, before anything was put to the output or where the command had come so far; the line on it was put, or nothing was
abbrev pub MemoryFailed : Type 0 → Outside → Outside → Type 0
MemoryFailed Came before after = (Kept before.out after.out ⊎ Came) × (Grew before.err after.err memory_line ⊎ Kept before.err after.err)
