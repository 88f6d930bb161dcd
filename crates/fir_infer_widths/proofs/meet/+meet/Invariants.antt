use Rattle.std.proofs.Common.{◌+◌, ◌*◌}
use Rattle.fir_type_table.specs.working.Tables.{types_of}
use Rattle.fir_infer_widths.proofs.MeetFields.{FieldsMet}
use Rattle.fir_infer_widths.proofs.MeetRanks.{rank}
use Rattle.fir_infer_widths.proofs.meet.+meet.Given as goal

abbrev pub decreases-meet : goal.decreases-meet
decreases-meet l = 3 * rank l.left.found + 1

abbrev pub decreases-meet_elements : goal.decreases-meet_elements
decreases-meet_elements l = 3 * rank l.left.found + 2

abbrev pub decreases-meet_field : goal.decreases-meet_field
decreases-meet_field l = 3 * rank l.left.found + 2

abbrev pub decreases-meet_fields : goal.decreases-meet_fields
decreases-meet_fields l = 3 * l.bundle.number + 3

abbrev pub invariant-meet_fields-loop-member : goal.invariant-meet_fields-loop-member
invariant-meet_fields-loop-member l = FieldsMet (types_of l.table) l.initial.arena l.turned l.first l.member-items l.right l.member-index l.next l.arena
