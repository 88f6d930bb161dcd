-- What a net allows at a tick.
use Rattle.std.specs.Prelude.{◌≡◌, ℕ, Option, map}
use Rattle.fir_base.specs.Ticks.{Allowance}
use Rattle.fir_net.specs.declared.net.FlatNet.{FlatNet}
use Rattle.fir_net.specs.working.Settled.{Settled, clock_outputs, outputs}
use Rattle.fir_net.specs.working.Next.{next}

-- some settled values and clocks show the outputs and the clocks of those that are clocks, and the next state follows from them
abbrev pub Allows : FlatNet → Allowance
Allows net state tick shown clocks after =
    (env : ℕ → ℕ) × (clock : ℕ → Option ℕ) × Settled net state tick env clock
    × (map env (outputs net) ≡ shown) × (map clock (clock_outputs net) ≡ clocks) × (next net state env clock tick ≡ after)
