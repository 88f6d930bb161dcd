-- Whether a clock has an edge at a tick (FIRRTL spec, "Clock Type").
use Rattle.std.specs.Prelude.{ℕ, List, Bool, false, Option, Some, None}
use Rattle.fir_base.specs.Ticks.{rises}

-- whether a clock is among those that rise; none never is
abbrev pub has_edge : List ℕ → Option ℕ → Bool
has_edge named None = false
has_edge named (Some k) = rises named k
