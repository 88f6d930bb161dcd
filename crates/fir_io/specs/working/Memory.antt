-- What files and sinks in memory show, and how each call answers.
use Rattle.std.specs.Prelude.{◌≡◌, ℕ, ◌+◌, ◌-◌, ◌^◌, ◌<◌, ◌≤◌, min, List, [], ◌∷◌, ◌++◌, length, take, true, Option, Some, None, Result, Ok, Err, Vec, find, option_map, ◌⊎◌}
use Rattle.std.specs.Str.{bytes_eq}
use Rattle.std.specs.declared.alloc.Global.{Global}
use Rattle.fir_io.specs.declared.entry.FileEntry.{FileEntry}
use Rattle.fir_io.specs.declared.planned.CallFault.{CallFault}
use Rattle.fir_io.specs.declared.planned.CallFault.TheVariants as planned_fault
use Rattle.fir_io.specs.declared.planned.FailingCall.{FailingCall}
use Rattle.fir_io.specs.declared.ports.FileFault.{FileFault}
use Rattle.fir_io.specs.declared.ports.FileFault.TheVariants as file
use Rattle.fir_io.specs.declared.ports.PutFault.{PutFault}
use Rattle.fir_io.specs.declared.ports.PutFault.TheVariants as put
use Rattle.fir_io.specs.working.Planned.{planned}
use Rattle.fir_io.specs.Ports.{FilesSeen, SinkSeen}

-- files, the reads that are to fail, and the reads, bytes and faults so far
pub record MemFilesView : Type 0 where
  pub entries : List FileEntry
  pub failing : List FailingCall
  pub calls : ℕ
  pub taken : ℕ
  pub faults : ℕ

-- the bytes that a sink holds, the puts that are to fail, and the puts and faults so far
pub record MemSinkView : Type 0 where
  pub held : List ℕ
  pub failing : List FailingCall
  pub calls : ℕ
  pub faults : ℕ

-- the content of the first entry of that name
abbrev pub content_of : List FileEntry → List ℕ → Option (List ℕ)
content_of entries name = option_map (λ e. e.content) (find (λ e. bytes_eq e.name name) entries)

-- every name may be asked, and what an entry holds is told
abbrev pub mem_files_seen : MemFilesView → FilesSeen
mem_files_seen f = record { may = λ _. true; told = content_of f.entries; taken = f.taken; faults = f.faults }

-- the held bytes are told
abbrev pub mem_sink_seen : MemSinkView → SinkSeen
mem_sink_seen s = record { held = Some s.held; faults = s.faults }

-- the next value of a count, which stays at the end of its type
abbrev pub next_count : ℕ → ℕ
next_count n = min (n + 1) (2 ^ 64 - 1)

-- a content is read: TooLong exactly where it is longer than the limit, with limit + 1 bytes taken; else all of it, or nothing for want of memory
abbrev pub ReadsContent : ℕ → List ℕ → ℕ → Result (Vec ℕ Global) FileFault → Type 0
ReadsContent limit content taken (Ok v) = (length content ≤ limit) × (v.items ≡ content) × (taken ≡ length content)
ReadsContent limit content taken (Err file.Failed) = ⊥
ReadsContent limit content taken (Err file.TooLong) = (limit < length content) × (taken ≡ limit + 1)
ReadsContent limit content taken (Err file.Memory) = (length content ≤ limit) × (taken ≡ 0)

-- the planned fault is the answer, and a missing file is a fault; the count of faults rises at these two alone
abbrev pub MemReadAnswers : ℕ → Option CallFault → Option (List ℕ) → MemFilesView → MemFilesView → Result (Vec ℕ Global) FileFault → Type 0
MemReadAnswers limit (Some (planned_fault.Failed n)) content old new result = (result ≡ Err file.Failed) × (new.taken ≡ n) × (new.faults ≡ next_count old.faults)
MemReadAnswers limit (Some planned_fault.Memory) content old new result = (result ≡ Err file.Memory) × (new.taken ≡ 0) × (new.faults ≡ old.faults)
MemReadAnswers limit None None old new result = (result ≡ Err file.Failed) × (new.taken ≡ 0) × (new.faults ≡ next_count old.faults)
MemReadAnswers limit None (Some content) old new result = ReadsContent limit content new.taken result × (new.faults ≡ old.faults)

-- what a read of files in memory leaves and answers
pub record MemReads (limit : ℕ) (name : List ℕ) (old new : MemFilesView) (result : Result (Vec ℕ Global) FileFault) : Type 0 where
  pub entries : new.entries ≡ old.entries
  pub failing : new.failing ≡ old.failing
  pub calls : new.calls ≡ next_count old.calls
  pub answer : MemReadAnswers limit (planned old.failing old.calls) (content_of old.entries name) old new result

-- a piece is held whole, or for want of memory not at all
abbrev pub HoldsPiece : List ℕ → List ℕ → List ℕ → Result (Unit {0}) PutFault → Type 0
HoldsPiece piece old new (Ok u) = new ≡ old ++ piece
HoldsPiece piece old new (Err put.Failed) = ⊥
HoldsPiece piece old new (Err put.Memory) = new ≡ old

-- the planned fault is the answer, after the bytes that it names or, for want of memory, none; the count of faults rises there alone
abbrev pub MemPutAnswers : List ℕ → Option CallFault → MemSinkView → MemSinkView → Result (Unit {0}) PutFault → Type 0
MemPutAnswers piece (Some (planned_fault.Failed n)) old new result = (result ≡ Err put.Failed) × ((new.held ≡ old.held ++ take n piece) ⊎ (new.held ≡ old.held)) × (new.faults ≡ next_count old.faults)
MemPutAnswers piece (Some planned_fault.Memory) old new result = (result ≡ Err put.Memory) × (new.held ≡ old.held) × (new.faults ≡ old.faults)
MemPutAnswers piece None old new result = HoldsPiece piece old.held new.held result × (new.faults ≡ old.faults)

-- a put of a piece that is not empty is a call
pub record MemPutsPiece (piece : List ℕ) (old new : MemSinkView) (result : Result (Unit {0}) PutFault) : Type 0 where
  pub failing : new.failing ≡ old.failing
  pub calls : new.calls ≡ next_count old.calls
  pub answer : MemPutAnswers piece (planned old.failing old.calls) old new result

-- what a put to a sink in memory leaves and answers; an empty piece changes nothing
abbrev pub MemPuts : List ℕ → MemSinkView → MemSinkView → Result (Unit {0}) PutFault → Type 0
MemPuts [] old new result = (result ≡ Ok tt) × (new ≡ old)
MemPuts (b ∷ bs) old new result = MemPutsPiece (b ∷ bs) old new result
