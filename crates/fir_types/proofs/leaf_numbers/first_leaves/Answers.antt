use Rattle.fir_ast.specs.working.Views.{circuit_of}
use Rattle.fir_type_table.specs.working.Tables.{types_of}
use Rattle.fir_types.proofs.LeafWalks.{circuit_all, circuit_first, circuit_next, module_beside}
use Rattle.fir_types.proofs.leaf_numbers.first_leaves.Goals as goal

pub loop-number-init : goal.loop-number-init
loop-number-init c =
    circuit_first (circuit_of c.args.named.now) (types_of c.args.table.now) c.args.bundles.now c.args.declared.now c.requires.holds c.requires.types
    c.in_ok-starts.starts.items c.in_ok-starts.body c.new-leaves.result.items c.in_ok-starts.ensures c.new-leaves.ensures.items

pub loop-number-preserved : goal.loop-number-preserved
loop-number-preserved c =
    let walked = rw (c.deref.ensures.value, c.deref-in-loop-number.ensures.value) at c.in_ok-in_module.ensures in
    circuit_next (circuit_of c.args.named.now) (types_of c.args.table.now) c.args.bundles.now c.args.declared.now c.requires.holds c.requires.types c.requires.names
    c.in-Some.names.now c.in_ok-starts.starts.items c.in_ok-starts.body c.loop-number.number c.index-declared-number.result c.loop-number.next c.in_module.new.next
    c.in_ok-in_module.field-0 c.loop-number.leaves.items c.push.new.self.items c.in_ok-starts.ensures c.loop-number-test.true c.index-declared-number.is
    c.in-Some.ensures c.loop-number.invariant walked c.in_ok-push.ensures.items

pub unreachable-requires : goal.unreachable-requires
unreachable-requires c =
    let there =
    module_beside (circuit_of c.args.named.now) (types_of c.args.table.now) c.args.bundles.now c.args.declared.now c.requires.holds c.requires.types
    c.loop-number.number c.index-declared-number.result c.loop-number-test.true c.index-declared-number.is in
    c.in_default.ensures there.0 there.1

pub returns : goal.returns
returns c =
    circuit_all (circuit_of c.args.named.now) (types_of c.args.table.now) c.args.bundles.now c.args.declared.now c.requires.holds c.requires.types c.loop-number.number
    c.loop-number.next c.loop-number.leaves.items c.loop-number-test.false c.loop-number.invariant
