use Rattle.std.proofs.Common.{◌∙◌}
use Rattle.fir_least_widths.proofs.NotedReaders.{all_read_more, all_read, within_more, within_all}
use Rattle.fir_least_widths.proofs.readers.readers_of.Goals as goal

pub loop-place-preserved : goal.loop-place-preserved
loop-place-preserved c =
    record {
      long = c.in_ok-note_term.ensures.long ∙ c.loop-place.invariant.long;
      read = all_read_more _ _ _ _ _ c.loop-place.invariant.read c.loop-place-test.true c.in_ok-note_term.ensures;
      within = within_more _ _ _ _ c.loop-place.invariant.within c.in_ok-note_term.ensures;
    }

pub returns-clause-read : goal.returns-clause-read
returns-clause-read c = all_read _ _ _ c.loop-place.invariant.read c.loop-place-test.false

pub returns-clause-within : goal.returns-clause-within
returns-clause-within c = within_all _ _ _ c.loop-place.invariant.within c.loop-place.auto.place-end
