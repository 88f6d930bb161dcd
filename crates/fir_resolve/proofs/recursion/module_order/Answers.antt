use Rattle.std.proofs.Common.{sym, subst}
use Rattle.fir_ast.specs.working.Views.{circuit_of}
use Rattle.fir_graph.specs.working.IsCircle.{IsCircle}
use Rattle.fir_meaning.specs.Mentions.{module_names}
use Rattle.fir_names.specs.working.Ordered.{instances_of}
use Rattle.fir_resolve.proofs.ModuleOrders.{ordered, circled}
use Rattle.fir_resolve.proofs.recursion.module_order.Goals as goal

pub returns-in-Ok : goal.returns-in-Ok
returns-in-Ok c =
    let tree = circuit_of c.args.circuit.now in
    let same = c.in_ok-hierarchy.ensures (module_names tree) tree.modules c.requires.tabulated in
    ordered tree c.requires.names c.in_ok-hierarchy.hierarchy same c.in-Ok.order.items c.in-Ok.ensures.ok

pub recursion-requires-clause-circle : goal.recursion-requires-clause-circle
recursion-requires-clause-circle c =
    let tree = circuit_of c.args.circuit.now in
    let same = c.in_ok-hierarchy.ensures (module_names tree) tree.modules c.requires.tabulated in
    subst (IsCircle (instances_of tree)) (sym c.as_slice.ensures)
    (circled tree c.requires.names c.in_ok-hierarchy.hierarchy same c.in-Err-Fault.circle (rw c.in-Err-Fault.field-0-is at c.in-Err-Fault.ensures.fault))
