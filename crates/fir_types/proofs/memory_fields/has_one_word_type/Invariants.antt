use Rattle.fir_meaning.specs.MemoryTypes.{data_of_part}
use Rattle.fir_types.proofs.FieldsLeft.{Met}
use Rattle.fir_types.proofs.memory_fields.has_one_word_type.Given as goal

abbrev pub invariant-loop-field : goal.invariant-loop-field
invariant-loop-field l = Met data_of_part l.is_met l.fields l.field-index
