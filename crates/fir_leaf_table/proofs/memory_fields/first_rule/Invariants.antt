use Rattle.std.proofs.Common.{[]}
use Rattle.fir_meaning.specs.MemoryFaults.{read_under_write_of_part}
use Rattle.fir_types.proofs.FieldsLeft.{Left}
use Rattle.fir_leaf_table.proofs.memory_fields.first_rule.Given as goal

abbrev pub invariant-loop-field : goal.invariant-loop-field
invariant-loop-field l = Left read_under_write_of_part [] l.fields l.field-index
