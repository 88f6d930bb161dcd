use Rattle.std.proofs.Common.{refl}
use Rattle.std.specs.Prelude.{not}
use Rattle.std.proofs.lemmas.Result.{on_ok_weaker}
use Rattle.fir_ast.specs.working.Views.{circuit_of}
use Rattle.fir_type_table.specs.working.Tables.{types_of}
use Rattle.fir_infer_resets.proofs.MeetingsStand.{connect_met, node_met, instance_met}
use Rattle.fir_infer_resets.proofs.meetings.join_meet.Goals as goal

pub returns-in-Connected : goal.returns-in-Connected
returns-in-Connected c = λ js m before is stands.
    let arm = c.in-Connected in
    on_ok_weaker c.join_connect.result
    (connect_met (circuit_of c.args.named.now) c.requires.names c.requires.types c.args.findings.now c.args.module_number m stands (types_of c.args.findings.now.table)
    c.args.meet.now arm.whole (not arm.whole) arm.sink arm.range arm.source arm.is refl is js c.args.joined.now c.join_connect.new.joined before)
    c.join_connect.ensures

pub returns-in-Node : goal.returns-in-Node
returns-in-Node c = λ js m before is stands.
    let arm = c.in-Node in
    on_ok_weaker c.join_node.result
    (node_met (circuit_of c.args.named.now) c.requires.names c.requires.types c.args.findings.now c.args.module_number m stands (types_of c.args.findings.now.table)
    c.args.meet.now arm.field-1 arm.ident arm.source arm.is is js c.args.joined.now c.join_node.new.joined before)
    c.join_node.ensures

pub returns-in-Instance : goal.returns-in-Instance
returns-in-Instance c = λ js m before is stands.
    let arm = c.in-Instance in
    instance_met (circuit_of c.args.named.now) c.requires.names c.requires.types c.args.findings.now c.args.module_number m stands (types_of c.args.findings.now.table)
    c.args.meet.now arm.field-1 arm.field-0 arm.is is js c.args.joined.now before
