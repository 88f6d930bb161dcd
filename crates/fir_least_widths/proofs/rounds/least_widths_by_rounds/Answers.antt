use Rattle.fir_least_widths.proofs.RoundLooks.{nothing_rose}
use Rattle.fir_least_widths.proofs.rounds.least_widths_by_rounds.Goals as goal

pub returns-clause-least : goal.returns-clause-least
returns-clause-least c =
    nothing_rose _ c.loop.widths.len c.loop.widths.items c.deref_mut.result.now c.raise_each.new.widths c.loop.widths.ok.0 c.deref_mut.ensures.value c.loop.invariant.below c.loop-test.ensures
