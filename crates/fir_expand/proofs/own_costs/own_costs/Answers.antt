use Rattle.std.proofs.Common.{ℕ, List, ◌<◌, length, ap, ◌∙◌, arith}
use Rattle.fir_ast.specs.declared.circuit.Circuit.{Circuit}
use Rattle.fir_ast.specs.working.Views.{circuit_of, module_of}
use Rattle.fir_types.proofs.InstanceWalks.{length_of_map}
use Rattle.fir_expand.proofs.OwnCostsFound.{costs_next}
use Rattle.fir_expand.proofs.own_costs.own_costs.Goals as goal

pub loop-number-preserved : goal.loop-number-preserved
loop-number-preserved c =
    let tree = c.args.named.now in
    let long = length_of_map module_of tree.modules.items in
    let within : c.loop-number.number < length (circuit_of tree).modules =
    (let read = ap (λ (x : Circuit). length x.modules.items) c.circuit.ensures.tree in
    let short = c.loop-number-test.true in
    let end = c.len-number-end.ensures in
    omega (arith, long, read, short, end)) in
    ◌∙◌ {A = List ℕ} c.in_ok-push.ensures.items
    (costs_next (circuit_of tree).modules c.loop-number.number c.loop-number.costs.items c.own_cost.result within c.loop-number.invariant c.own_cost.ensures)
