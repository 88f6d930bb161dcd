use Rattle.fir_drop_dead.specs.working.Numbers.{ArePlaces}
use Rattle.fir_drop_dead.proofs.numbering.Numbering.new.Given as goal

abbrev pub invariant-loop-mark : goal.invariant-loop-mark
invariant-loop-mark l = ArePlaces l.fn.marks.items l.mark-index l.count l.places.items
