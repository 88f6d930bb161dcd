use Rattle.fir_check.proofs.MemoryPorts.{ports_made, wires_grown}
use Rattle.fir_check.proofs.memory_type.port_types.Goals as goal

pub writer_type-requires : goal.writer_type-requires
writer_type-requires c =
    let (t, words, has) = c.requires in
    let reader = c.in_ok-reader_type.ensures t words has in
    (t, words, wires_grown c.args.table.now c.reader_type.new.table reader.more t words c.args.wires reader.grown has)

pub readwriter_type-requires : goal.readwriter_type-requires
readwriter_type-requires c =
    let (t, words, has) = c.requires in
    let reader = c.in_ok-reader_type.ensures t words has in
    let next = wires_grown c.args.table.now c.reader_type.new.table reader.more t words c.args.wires reader.grown has in
    let writer = c.in_ok-writer_type.ensures t words next in
    (t, words, wires_grown c.reader_type.new.table c.writer_type.new.table writer.more t words c.args.wires writer.grown next)

pub returns : goal.returns
returns c = λ t words has.
    let reader = c.in_ok-reader_type.ensures t words has in
    let next = wires_grown c.args.table.now c.reader_type.new.table reader.more t words c.args.wires reader.grown has in
    let writer = c.in_ok-writer_type.ensures t words next in
    let last = wires_grown c.reader_type.new.table c.writer_type.new.table writer.more t words c.args.wires writer.grown next in
    ports_made _ _ _ _ c.args.place t words _ reader writer (c.in_ok-readwriter_type.ensures t words last)
