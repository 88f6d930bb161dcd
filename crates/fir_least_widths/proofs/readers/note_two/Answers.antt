use Rattle.fir_least_widths.proofs.NotedReaders.{noted_two}
use Rattle.fir_least_widths.proofs.readers.note_two.Goals as goal

pub returns : goal.returns
returns c = noted_two _ _ _ _ _ _ c.in_ok-note.ensures c.in_ok-note-2.ensures
