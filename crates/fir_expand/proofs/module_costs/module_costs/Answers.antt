use Rattle.std.proofs.Common.{◌<◌, length, ap, map, slice_index_or, arith}
use Rattle.fir_ast.specs.working.Views.{circuit_of, module_of}
use Rattle.fir_expand.proofs.CostsInOrder.{at_place, below, costs_all, module_costed, own_long}
use Rattle.fir_expand.proofs.module_costs.module_costs.Goals as goal

pub unreachable-requires : goal.unreachable-requires
unreachable-requires c =
    let m = at_place (circuit_of c.args.named.now) c.circuit.ensures.named c.module_order-order.result.now c.module_order-order.ensures c.loop-number.number-index c.loop-number-test.true in
    c.in_default.ensures m.0 m.1

pub offset_bounds-own-number : goal.offset_bounds-own-number
offset_bounds-own-number c =
    let below : slice_index_or c.module_order-order.result.now c.loop-number.number-index 0 < length (map module_of c.args.named.now.modules.items) =
    below (circuit_of c.args.named.now) c.circuit.ensures.named c.module_order-order.result.now c.module_order-order.ensures c.loop-number.number-index c.loop-number-test.true in
    omega (arith, below, c.loop-number.invariant.long, c.as_slice.type_inv.1, ap length c.as_slice.ensures.value)

pub bounds-own-number : goal.bounds-own-number
bounds-own-number c =
    let below : slice_index_or c.module_order-order.result.now c.loop-number.number-index 0 < length (map module_of c.args.named.now.modules.items) =
    below (circuit_of c.args.named.now) c.circuit.ensures.named c.module_order-order.result.now c.module_order-order.ensures c.loop-number.number-index c.loop-number-test.true in
    omega (arith, below, own_long (circuit_of c.args.named.now) c.args.own.now c.requires)

pub index_mut-requires : goal.index_mut-requires
index_mut-requires c =
    let below : slice_index_or c.module_order-order.result.now c.loop-number.number-index 0 < length (map module_of c.args.named.now.modules.items) =
    below (circuit_of c.args.named.now) c.circuit.ensures.named c.module_order-order.result.now c.module_order-order.ensures c.loop-number.number-index c.loop-number-test.true in
    omega (arith, below, c.loop-number.invariant.long)

pub loop-number-preserved : goal.loop-number-preserved
loop-number-preserved c =
    module_costed (circuit_of c.args.named.now) c.circuit.ensures.named c.module_order-order.result.now c.module_order-order.ensures
    c.in-Some.names.now c.args.own.now c.loop-number.costs.items c.loop-number.number-index c.instance_costs-instances.result c.saturating_add.result
    c.loop-number.invariant c.loop-number-test.true c.requires c.in-Some.ensures (rw c.as_slice.ensures.value at c.instance_costs-instances.ensures) c.saturating_add.ensures

pub returns : goal.returns
returns c =
    costs_all (circuit_of c.args.named.now) c.circuit.ensures.named c.module_order-order.result.now c.module_order-order.ensures c.loop-number.costs.items
    c.loop-number.number-index c.loop-number.invariant c.loop-number-test.false
