-- How a put of a line to the error output ends.
-- A put that fails makes the status `Unwritten`, one that finds no memory `NoMemory`.
use Rattle.std.specs.Prelude.{◌≡◌, ℕ, List, ◌⊎◌}
use Rattle.fir_io.specs.declared.ports.FileFault.{FileFault}
use Rattle.fir_io.specs.declared.ports.FileFault.TheVariants as file
use Rattle.fir_io.specs.Ports.{SinkSeen, Rose, Grew, Kept, GrewByFront}
use Rattle.fir_cli.specs.declared.status.Status.{Status}
use Rattle.fir_cli.specs.declared.status.Status.TheVariants as status
use Rattle.fir_cli.specs.Messages.{unread_line, too_long_line, memory_line}

-- a line was put, which ends with the due status
abbrev pub Said : List ℕ → Status → SinkSeen → SinkSeen → Status → Type 0
Said line due old new ending =
    ((ending ≡ due) × Grew old new line)
    ⊎ ((ending ≡ status.Unwritten) × Rose old.faults new.faults × GrewByFront old new line)
    ⊎ ((ending ≡ status.NoMemory) × Kept old new)

-- a line that names a file was put, or the one on memory where there was none to make it
abbrev pub Complained : List ℕ → Status → SinkSeen → SinkSeen → Status → Type 0
Complained line due old new ending = Said line due old new ending ⊎ Said memory_line status.NoMemory old new ending

-- a file was not read, and the line that is due was put
abbrev pub Untaken : List ℕ → FileFault → SinkSeen → SinkSeen → Status → Type 0
Untaken name file.Failed old new ending = Complained (unread_line name) status.Unread old new ending
Untaken name file.TooLong old new ending = Complained (too_long_line name) status.TooLong old new ending
Untaken name file.Memory old new ending = Said memory_line status.NoMemory old new ending
