use Rattle.fir_meaning.specs.MemoryFaults.{read_under_write_of_part}
use Rattle.fir_types.proofs.FieldsLeft.{Met}
use Rattle.fir_types.proofs.memory_fields.has_no_second_rule.Given as goal

abbrev pub invariant-loop-field : goal.invariant-loop-field
invariant-loop-field l = Met read_under_write_of_part l.is_met l.fields l.field-index
