use Rattle.std.proofs.Common.{ℕ, ◌+◌, List, Vec, Global, sym, subst}
use Rattle.fir_names.proofs.InstanceNumbers.{Modules, modules_more, modules_all}
use Rattle.fir_resolve.proofs.hierarchy.Hierarchy.new.Goals as goal

pub loop-table-preserved : goal.loop-table-preserved
loop-table-preserved c = λ names.
    let tables = c.args.tables.now in
    let i = c.loop-table.table-index in
    subst (Modules names tables (i + 1)) (sym {A = List (Vec ℕ Global)} c.in_ok-push.ensures.items)
    (modules_more names tables i c.loop-table.instances.items (c.loop-table.invariant names) c.table-item.result c.loop-table-test.true c.table-item.is
    c.in_ok-instances_in.field-0 (c.in_ok-instances_in.ensures names))

pub returns : goal.returns
returns c = λ names modules tab.
    modules_all names c.args.tables.now c.loop-table.table-index c.loop-table.instances.items (c.loop-table.invariant names) c.loop-table-test.false modules tab
