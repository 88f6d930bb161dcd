-- What each answer of a call says of the file that is read, or of the sink that is put to.
use Rattle.std.specs.Prelude.{◌≡◌, ℕ, ◌+◌, ◌<◌, ◌≤◌, List, [], ◌++◌, length, Result, Ok, Err, IfSome, IsOk, Vec}
use Rattle.std.specs.declared.alloc.Global.{Global}
use Rattle.fir_io.specs.declared.ports.FileFault.{FileFault}
use Rattle.fir_io.specs.declared.ports.FileFault.TheVariants as file
use Rattle.fir_io.specs.declared.ports.PutFault.{PutFault}
use Rattle.fir_io.specs.declared.ports.PutFault.TheVariants as put
use Rattle.fir_io.specs.Ports.{FilesSeen, SinkSeen, Rose, AtLeast, Grew}

-- Ok gives the told content, of at most limit bytes, all of them taken; TooLong comes only where more than limit bytes were taken,
-- so of told content only where that is longer; the count of faults rises exactly at Failed
abbrev pub ReadShows : ℕ → List ℕ → FilesSeen → FilesSeen → Result (Vec ℕ Global) FileFault → Type 0
ReadShows limit name old new (Ok v) = (length v.items ≤ limit) × (new.taken ≡ length v.items) × IfSome (old.told name) (λ b. v.items ≡ b) × (new.faults ≡ old.faults)
ReadShows limit name old new (Err file.Failed) = Rose old.faults new.faults
ReadShows limit name old new (Err file.TooLong) = AtLeast (limit + 1) new.taken × IfSome (old.told name) (λ b. limit < length b) × (new.faults ≡ old.faults)
ReadShows limit name old new (Err file.Memory) = new.faults ≡ old.faults

-- what a call of read shows: the first two meanings stay, the count of faults never falls
pub record Reads (limit : ℕ) (name : List ℕ) (old new : FilesSeen) (result : Result (Vec ℕ Global) FileFault) : Type 0 where
  pub may : new.may ≡ old.may
  pub told : new.told ≡ old.told
  pub later : old.faults ≤ new.faults
  pub shows : ReadShows limit name old new result

-- Ok appends the piece, Failed a prefix of it, Memory nothing; the count of faults rises exactly at Failed
abbrev pub PutShows : List ℕ → SinkSeen → SinkSeen → Result (Unit {0}) PutFault → Type 0
PutShows piece old new (Ok u) = Grew old new piece × (new.faults ≡ old.faults)
PutShows piece old new (Err put.Failed) = Rose old.faults new.faults × ((front back : List ℕ) × (piece ≡ front ++ back) × Grew old new front)
PutShows piece old new (Err put.Memory) = Grew old new [] × (new.faults ≡ old.faults)

-- what a call of put shows; an empty piece is always Ok
pub record Puts (piece : List ℕ) (old new : SinkSeen) (result : Result (Unit {0}) PutFault) : Type 0 where
  pub later : old.faults ≤ new.faults
  pub empty : piece ≡ [] → IsOk result
  pub shows : PutShows piece old new result
