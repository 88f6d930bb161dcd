use Rattle.std.proofs.Common.{map, sym}
use Rattle.fir_meaning.specs.working.LeafMemories.{port_kinds_of}
use Rattle.fir_leaf_table.specs.working.Memories.{port_seen}
use Rattle.fir_types.proofs.FieldsLeft.{left_next, left_none}
use Rattle.fir_leaf_table.proofs.memory_fields.memory_ports.Goals as goal

pub loop-field-preserved : goal.loop-field-preserved
loop-field-preserved c =
    rw c.in_ok-put_ports.ensures
    (left_next port_kinds_of (map port_seen c.loop-field.ports.items) c.args.fields.now c.loop-field.field-index c.field-item.result c.loop-field-test.true
    c.field-item.is c.loop-field.invariant)

pub returns : goal.returns
returns c =
    sym (left_none port_kinds_of (map port_seen c.loop-field.ports.items) c.args.fields.now c.loop-field.field-index c.loop-field-test.false
    c.loop-field.invariant)
