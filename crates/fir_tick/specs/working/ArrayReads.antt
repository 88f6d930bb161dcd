-- What is read of arrays, from the words of the state and the numbers of a tick.
use Rattle.std.specs.Prelude.{◌≡◌, ℕ, ◌+◌, List, slice_get, slice_index, nat_eq, nat_lt, ◌&&◌, if◌then◌else◌, Bool, unwrap_or}
use Rattle.fir_bits.specs.Values.{BitVector}
use Rattle.fir_net.specs.declared.array.ArrayRead.{ArrayRead}
use Rattle.fir_net.specs.declared.net.FlatNet.{FlatNet}
use Rattle.fir_work.specs.working.Numbers.{number_at, place}
use Rattle.fir_tick.specs.declared.array_reads.WordRead.{WordRead}
use Rattle.fir_tick.specs.working.ArraySpans.{span_of}
use Rattle.fir_tick.specs.working.Passes.{zero_of}

-- whether there is a word to read
abbrev pub is_found : WordRead → List ℕ → Bool
is_found r ns = nat_eq (number_at ns r.enable) 1 && nat_lt (number_at ns r.address) r.span.words

-- the word that is read
abbrev pub word_found : WordRead → List ℕ → List ℕ → ℕ
word_found r state ns = if is_found r ns then slice_index state (r.span.begin + number_at ns r.address) else 0

-- the word itself, of that width where there is none to read
abbrev pub word_at : WordRead → ℕ → List BitVector → List ℕ → BitVector
word_at r width words ns = if is_found r ns then unwrap_or (slice_get words (r.span.begin + number_at ns r.address)) (zero_of width) else zero_of width

-- it reads what that leaf reads
pub record IsWordRead (net : FlatNet) (a : ArrayRead) (r : WordRead) : Type 0 where
  pub address : r.address ≡ place net a.address
  pub enable : r.enable ≡ place net a.enable
  pub span : r.span ≡ span_of net a.array
