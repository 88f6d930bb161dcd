-- Where arrays stand in the state.
-- An array that has bits begins where the net says, and an array of no bits has no words there.
use Rattle.std.specs.Prelude.{◌≡◌, ℕ, ◌<◌, List, length, slice_get, Option, Some, None}
use Rattle.fir_net.specs.declared.net.FlatNet.{FlatNet}
use Rattle.fir_net.specs.working.Arrays.{begin_of, words_of}
use Rattle.fir_tick.specs.declared.spans.ArraySpan.{ArraySpan}

abbrev pub no_span : ArraySpan
no_span = record { begin = 0; words = 0 }

abbrev pub span_at : ℕ → Option ℕ → ArraySpan
span_at words None = no_span
span_at words (Some place) = record { begin = place; words = words }

abbrev pub span_of : FlatNet → ℕ → ArraySpan
span_of net k = span_at (words_of net.arrays k) (begin_of net k)

-- of each array where it stands
pub record AreSpans (net : FlatNet) (spans : List ArraySpan) : Type 0 where
  pub each : (k : ℕ) → k < length net.arrays → slice_get spans k ≡ Some (span_of net k)
