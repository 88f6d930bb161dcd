use Rattle.std.proofs.Common.{◌++◌}
use Rattle.std.proofs.lemmas.Result.{IfOk-weaker}
use Rattle.fir_base.proofs.Elements.{there}
use Rattle.fir_type_table.specs.working.Tables.{types_of}
use Rattle.fir_check.proofs.HeldTypes.{grown_twice}
use Rattle.fir_check.proofs.MemoryPorts.{parts_bundle, ports_all, ports_first, ports_next}
use Rattle.fir_check.proofs.memory_type.memory_type.Goals as goal

pub port_types-requires : goal.port_types-requires
port_types-requires c =
    let word = there (types_of c.args.table.now) c.args.word_type.number c.requires in
    (word.0, c.args.words, (c.in_ok-wires.ensures word.0 word.1).has)

pub loop-field-init : goal.loop-field-init
loop-field-init c = λ ts t has. ports_first ts c.args.place t c.args.words c.args.fields.now _ c.new-parts.ensures.items

pub loop-field-preserved : goal.loop-field-preserved
loop-field-preserved c = λ ts t has.
    ports_next ts c.args.place t c.args.words c.args.fields.now c.loop-field.field-index c.field-item.result c.loop-field.parts.items _ c.loop-field-test.true
    c.field-item.is (λ fs are. c.in_ok-put_ports.ensures ts c.args.place t c.args.words fs has are) (c.loop-field.invariant ts t has)

pub add_bundle-requires : goal.add_bundle-requires
add_bundle-requires c =
    let word = there (types_of c.args.table.now) c.args.word_type.number c.requires in
    let wires = c.in_ok-wires.ensures word.0 word.1 in
    let ports = c.in_ok-ports.ensures word.0 c.args.words wires.has in
    (c.loop-field.invariant _ word.0 ports.has).are.held

pub returns : goal.returns
returns c =
    IfOk-weaker c.add_bundle.result _ _
    (λ id adds. λ t at.
    let wires = c.in_ok-wires.ensures t at in
    let ports = c.in_ok-ports.ensures t c.args.words wires.has in
    let parts = ports_all _ c.args.place t c.args.words c.args.fields.now c.loop-field.field-index c.loop-field.parts.items c.loop-field-test.false
    (c.loop-field.invariant _ t ports.has) in
    let last = parts_bundle c.port_types.new.table c.add_bundle.new.self id.number _ c.loop-field.parts.items parts adds in
    let begun = grown_twice c.args.table.now c.wire_types.new.table c.port_types.new.table wires.more ports.more wires.grown ports.grown in
    record {
      more = (wires.more ++ ports.more) ++ last.more;
      grown = grown_twice c.args.table.now c.port_types.new.table c.add_bundle.new.self (wires.more ++ ports.more) last.more begun last.grown;
      held = last.held;
    })
    c.add_bundle.ensures
