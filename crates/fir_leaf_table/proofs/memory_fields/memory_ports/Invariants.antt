use Rattle.std.proofs.Common.{map}
use Rattle.fir_meaning.specs.working.LeafMemories.{port_kinds_of}
use Rattle.fir_leaf_table.specs.working.Memories.{port_seen}
use Rattle.fir_types.proofs.FieldsLeft.{Left}
use Rattle.fir_leaf_table.proofs.memory_fields.memory_ports.Given as goal

abbrev pub invariant-loop-field : goal.invariant-loop-field
invariant-loop-field l = Left port_kinds_of (map port_seen l.ports.items) l.fields l.field-index
