-- What the system's files and sinks show: nothing of any content.
use Rattle.std.specs.Prelude.{◌≡◌, ℕ, ◌+◌, ◌<◌, ◌≤◌, List, length, true, Option, None, Result, Ok, Err, IfSome, Vec}
use Rattle.std.specs.declared.alloc.Global.{Global}
use Rattle.fir_io.specs.declared.os_files.OsFiles.{OsFiles}
use Rattle.fir_io.specs.declared.os_sink.OsSink.{OsSink}
use Rattle.fir_io.specs.declared.ports.FileFault.{FileFault}
use Rattle.fir_io.specs.declared.ports.FileFault.TheVariants as file
use Rattle.fir_io.specs.Ports.{FilesSeen, SinkSeen, AtLeast}

-- every name may be asked, and no content is told
abbrev pub os_files_seen : {R : Type 0} → OsFiles R → FilesSeen
os_files_seen f = record { may = λ _. true; told = λ _. None; taken = f.taken; faults = f.faults }

-- the held bytes are not told
abbrev pub os_sink_seen : {W : Type 0} → OsSink W → SinkSeen
os_sink_seen s = record { held = None; faults = s.faults }

-- the writer below a sink
abbrev pub os_writer : {W : Type 0} → OsSink W → W
os_writer s = s.writer

-- a reader is read to its end: Ok gives all that it had, TooLong comes only where it had more than limit bytes
abbrev pub ReadsAll : ℕ → Option (List ℕ) → ℕ → Result (Vec ℕ Global) FileFault → Type 0
ReadsAll limit remaining taken (Ok v) = (length v.items ≤ limit) × (taken ≡ length v.items) × IfSome remaining (λ b. v.items ≡ b)
ReadsAll limit remaining taken (Err file.TooLong) = AtLeast (limit + 1) taken × IfSome remaining (λ b. limit < length b)
ReadsAll limit remaining taken (Err fault) = Unit {0}
