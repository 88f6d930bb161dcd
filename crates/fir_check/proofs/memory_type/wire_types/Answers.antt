use Rattle.fir_check.proofs.MemoryPorts.{wires_made}
use Rattle.fir_check.proofs.memory_type.wire_types.Goals as goal

pub returns : goal.returns
returns c = λ t at.
    wires_made c.args.table.now c.add_uint.new.self c.add_mask.new.self t c.args.words _ c.clock.ensures c.bit.ensures at
    (rw c.address_width.ensures at c.in_ok-add_uint.ensures) c.in_ok-add_mask.ensures
