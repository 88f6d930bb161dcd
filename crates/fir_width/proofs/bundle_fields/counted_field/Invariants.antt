use Rattle.fir_type_table.specs.working.Tables.{types_of}
use Rattle.fir_width.proofs.FieldsCounted.{CountsTo}
use Rattle.fir_width.proofs.bundle_fields.counted_field.Given as goal

abbrev pub invariant-loop-member : goal.invariant-loop-member
invariant-loop-member l = CountsTo l.counted (types_of l.table) l.member-items l.leaf l.member-index l.offset l.shared_offset
