use Rattle.std.proofs.Common.{map}
use Rattle.fir_type_table.specs.working.Tables.{types_of}
use Rattle.fir_types.specs.working.Noted.{note_seen}
use Rattle.fir_meaning.specs.Costs.{sum_of}
use Rattle.fir_expand.specs.working.OwnSums.{leaves_noted}
use Rattle.fir_expand.proofs.SaturatedSums.{SumSoFar}
use Rattle.fir_expand.proofs.found_leaves.leaves_of_notes.Given as goal

abbrev pub invariant-loop-note : goal.invariant-loop-note
invariant-loop-note l = SumSoFar (λ xs. sum_of (map leaves_noted (map (note_seen (types_of l.table)) xs))) l.notes l.note-index l.sum
