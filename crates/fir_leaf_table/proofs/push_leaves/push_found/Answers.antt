use Rattle.std.proofs.Common.{false, subst, sym, ap}
use Rattle.std.specs.Prelude.{OnOk}
use Rattle.std.proofs.lemmas.Result.{on_ok_weaker}
use Rattle.fir_ast.specs.working.Views.{circuit_of}
use Rattle.fir_type_table.specs.working.Tables.{type_at, types_of}
use Rattle.fir_types.specs.working.Seen.{found_type}
use Rattle.fir_leaf_table.specs.working.PushedTypeLeaves.{Pushes}
use Rattle.fir_leaf_table.proofs.HeldLeaves.{pushes_async, pushes_shown}
use Rattle.fir_leaf_table.proofs.push_leaves.push_found.Goals as goal

pub returns-in-AsyncReset : goal.returns-in-AsyncReset
returns-in-AsyncReset c =
    let ts = types_of c.args.table.now in
    on_ok_weaker c.push_leaf.result
    (pushes_async (circuit_of c.args.fitted.now) false c.args.first c.args.leaves.now.items c.push_leaf.new.leaves.items (found_type ts c.args.found)
    (ap (found_type ts) c.in-AsyncReset.is))
    c.push_leaf.ensures

pub returns-in-Type : goal.returns-in-Type
returns-in-Type c =
    let circuit = circuit_of c.args.fitted.now in
    let ts = types_of c.args.table.now in
    let old = c.args.leaves.now.items in
    let new = c.push_type.new.leaves.items in
    subst (λ f. OnOk c.push_type.result (Pushes circuit false (found_type ts f) c.args.first old new)) (sym c.in-Type.is)
    (on_ok_weaker c.push_type.result (pushes_shown circuit false c.in-Type.field-1 (type_at ts c.in-Type.id.number) c.args.first old new)
    c.push_type.ensures)
