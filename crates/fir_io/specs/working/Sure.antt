-- What files and sinks that never fail show.
use Rattle.std.specs.Prelude.{◌≡◌, ℕ, List, [], true, Some, unwrap_or, Result, Vec}
use Rattle.std.specs.declared.alloc.Global.{Global}
use Rattle.fir_io.specs.declared.entry.FileEntry.{FileEntry}
use Rattle.fir_io.specs.declared.ports.FileFault.{FileFault}
use Rattle.fir_io.specs.working.Memory.{content_of, ReadsContent}
use Rattle.fir_io.specs.Ports.{FilesSeen, SinkSeen}

-- files, and the bytes taken since the last read began
pub record SureFilesView : Type 0 where
  pub entries : List FileEntry
  pub taken : ℕ

-- the content of the first entry of that name, else nothing
abbrev pub sure_content : List FileEntry → List ℕ → List ℕ
sure_content entries name = unwrap_or (content_of entries name) []

-- every name may be asked, its content is told, and nothing fails
abbrev pub sure_files_seen : SureFilesView → FilesSeen
sure_files_seen f = record { may = λ _. true; told = λ name. Some (sure_content f.entries name); taken = f.taken; faults = 0 }

-- the held bytes are told, and nothing fails
abbrev pub sure_sink_seen : List ℕ → SinkSeen
sure_sink_seen held = record { held = Some held; faults = 0 }

-- what a read of such files leaves and answers
pub record SureReads (limit : ℕ) (name : List ℕ) (old new : SureFilesView) (result : Result (Vec ℕ Global) FileFault) : Type 0 where
  pub entries : new.entries ≡ old.entries
  pub answer : ReadsContent limit (sure_content old.entries name) new.taken result
