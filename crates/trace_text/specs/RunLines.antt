-- The lines of a whole run, one for each tick.
use Rattle.std.specs.Prelude.{ℕ, List, [], ◌∷◌, ◌++◌, Bool, if◌then◌else◌, Some, None}
use Rattle.fir_base.specs.Ticks.{TickResult}
use Rattle.fir_bits.specs.Values.{BitVector}
use Rattle.trace_text.specs.OutputLines.{line_text}

-- numbers at these widths
abbrev pub with_widths : List ℕ → List ℕ → List BitVector
with_widths [] ns = []
with_widths (w ∷ ws) [] = []
with_widths (w ∷ ws) (n ∷ ns) = record { width = w; number = n } ∷ with_widths ws ns

-- outputs and state of these widths, the state where it is shown; the clocks of outputs have no text
abbrev pub shown_text : List ℕ → List ℕ → Bool → TickResult → List ℕ
shown_text outputs state with_state shown =
    line_text (with_widths outputs shown.outputs) (if with_state then Some (with_widths state shown.state) else None) None

unfoldable pub run_text : List ℕ → List ℕ → Bool → List TickResult → List ℕ
run_text outputs state with_state [] = []
run_text outputs state with_state (shown ∷ rest) = shown_text outputs state with_state shown ++ run_text outputs state with_state rest
