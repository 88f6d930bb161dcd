-- What a command does that reads one file and writes one text of it: each status, with its cause and with what stands on the outputs.
-- The file is read whole, and its bytes are refused by a line, or a text is written.
use Rattle.std.specs.Prelude.{◌≡◌, ℕ, ◌+◌, ◌<◌, List, length, IfSome, ◌⊎◌}
use Rattle.fir_io.specs.Ports.{Rose, AtLeast, Grew, Kept, GrewByFront}
use Rattle.fir_cli.specs.declared.status.Status.{Status}
use Rattle.fir_cli.specs.declared.status.Status.TheVariants as status
use Rattle.fir_cli.specs.Messages.{unread_line, too_long_line, memory_line}
use Rattle.fir_cli.specs.Outside.{limit, Outside, IsRead, OutFailed, ErrFailed, MemoryFailed}

-- what such a command says of bytes: which text it writes of them, which line refuses them, and whether it takes them
pub record TextMeaning : Type 1 where
  pub writes : List ℕ → List ℕ → Type 0
  pub refuses : List ℕ → List ℕ → Type 0
  pub takes : List ℕ → Type 0

-- which line is due on the error output, with which status and for what cause
abbrev pub Due : TextMeaning → List ℕ → Outside → Outside → Status → List ℕ → Type 0
Due k name before after status.Refused line = (bytes : List ℕ) × IsRead name before bytes × k.refuses bytes line
Due k name before after status.Unread line = Rose before.files.faults after.files.faults × (line ≡ unread_line name)
Due k name before after status.TooLong line =
    AtLeast (limit + 1) after.files.taken × IfSome (before.files.told name) (λ content. limit < length content) × (line ≡ too_long_line name)
Due k name before after status.NoMemory line = line ≡ memory_line
Due k name before after _ line = ⊥

-- a line is due, and nothing was put to the output
abbrev pub IsDueOfText : TextMeaning → List ℕ → Outside → Outside → List ℕ → Type 0
IsDueOfText k name before after line = (due : Status) × Due k name before after due line × Kept before.out after.out

-- a text of which the output took a front at least
pub record BeganText (k : TextMeaning) (name : List ℕ) (before after : Outside) : Type 0 where
  pub read : List ℕ
  pub written : List ℕ
  pub is_read : IsRead name before read
  pub writes : k.writes read written
  pub front : GrewByFront before.out after.out written

abbrev pub PutsText : TextMeaning → List ℕ → Outside → Outside → Status → Type 0
PutsText k name before after status.Done =
    (read : List ℕ) × (written : List ℕ) × IsRead name before read × k.writes read written × Grew before.out after.out written × (after.err ≡ before.err)
PutsText k name before after status.Unwritten = OutFailed (BeganText k name before after) before after ⊎ ErrFailed (IsDueOfText k name before after) before after
PutsText k name before after status.NoMemory = MemoryFailed (BeganText k name before after) before after
PutsText k name before after other =
    (line : List ℕ) × Due k name before after other line × (after.out ≡ before.out) × Grew before.err after.err line
