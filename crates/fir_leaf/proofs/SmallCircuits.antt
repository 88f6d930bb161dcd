-- Short names for ticks, and for what circuits over leaves show.
use Rattle.std.proofs.Common.{ℕ, List, []}
use Rattle.fir_base.specs.Ticks.{Tick, TickResult}

abbrev pub tick : List ℕ → List ℕ → Tick
tick clocks inputs = record { inputs = inputs; clocks = clocks }

-- outputs and a state, of a circuit of which no output is a clock
abbrev pub shows : List ℕ → List ℕ → TickResult
shows outputs state = record { outputs = outputs; clocks = []; state = state }
