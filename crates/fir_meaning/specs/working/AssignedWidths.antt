-- Widths that stand in a list, as an assignment.
use Rattle.std.specs.Prelude.{ℕ, List, slice_index}
use Rattle.fir_meaning.specs.WidthExpressions.{Widths}

-- the widths of a list, by their places in it, and 0 behind its end
abbrev pub assigned : List ℕ → Widths
assigned ws = λ k. slice_index ws k
