-- What a tick shows, and values as numbers at widths.
use Rattle.std.proofs.Common.{◌≡◌, ℕ, List, [], ◌∷◌, Option, refl, ap}
use Rattle.fir_base.specs.Ticks.{TickResult}
use Rattle.fir_bits.specs.Values.{BitVector}
use Rattle.trace_text.specs.RunLines.{with_widths}
use Rattle.fir_tick.specs.working.Views.{numbers, widths}

-- what a tick shows
abbrev pub shows : List ℕ → List (Option ℕ) → List ℕ → TickResult
shows outputs clocks state = record { outputs = outputs; clocks = clocks; state = state }

-- values are their numbers at their widths
pub at_widths : (vs : List BitVector) → with_widths (widths vs) (numbers vs) ≡ vs
at_widths [] = refl
at_widths (v ∷ vs) = ap (λ rest. v ∷ rest) (at_widths vs)
