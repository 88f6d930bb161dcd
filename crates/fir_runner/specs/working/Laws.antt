-- A law about the definitions.
use Rattle.std.specs.Prelude.{ℕ, List, Bool}
use Rattle.trace_lines.specs.Saying.{SaysFront, BeginsAll}
use Rattle.fir_outcome.specs.Simulations.{Prints}

-- the lines of the first ticks of a trace begin those of the whole trace; no item of a circuit lacks a value
abbrev pub FrontsBegin : Type 0
FrontsBegin =
    (text trace : List ℕ) (with_state : Bool) (printed : List ℕ) → Prints text with_state (SaysFront trace) printed
    → BeginsAll (Prints text with_state) (λ line lines. ⊥) trace printed
