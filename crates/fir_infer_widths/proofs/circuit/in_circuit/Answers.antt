use Rattle.std.proofs.Common.{length, ap, arith}
use Rattle.fir_ast.specs.declared.circuit.Circuit.{Circuit}
use Rattle.fir_ast.specs.working.Views.{circuit_of, module_of}
use Rattle.fir_types.proofs.InstanceWalks.{length_of_map}
use Rattle.fir_type_table.specs.working.Tables.{types_of}
use Rattle.fir_infer_widths.proofs.CircuitWalks.{circuit_walked}
use Rattle.fir_infer_widths.proofs.circuit.in_circuit.Goals as goal

pub returns : goal.returns
returns c =
    let tree = c.args.named.now in
    let long = length_of_map module_of tree.modules.items in
    let read = ap length c.deref-part-items.ensures.value in
    let whole = ap (λ (x : Circuit). length x.modules.items) c.circuit-circuit.ensures.tree in
    let past = c.loop-number-test.false in
    circuit_walked (circuit_of tree) (types_of c.args.findings.now.table) c.loop-number.number c.loop-number.walk (omega (arith, long, read, whole, past)) c.loop-number.invariant
