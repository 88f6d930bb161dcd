use Rattle.std.specs.Prelude.{option_to_list}
use Rattle.fir_types.specs.working.MemoryFields.{number_of_part}
use Rattle.fir_types.proofs.FieldsLeft.{Left}
use Rattle.fir_types.proofs.memory_fields.only_number.Given as goal

abbrev pub invariant-loop-field : goal.invariant-loop-field
invariant-loop-field l = Left (number_of_part l.which) (option_to_list l.found) l.fields l.field-index
