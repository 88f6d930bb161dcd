use Rattle.std.proofs.Common.{◌∙◌, ap, map, sym, subst}
use Rattle.std.proofs.lemmas.Result.{err_from_is_err_and}
use Rattle.fir_ast.specs.working.Views.{circuit_of, module_of}
use Rattle.fir_type_table.specs.working.Tables.{types_of}
use Rattle.fir_types.specs.working.TypedModules.{found_types}
use Rattle.fir_types.specs.working.Walked.{HoldsBundles}
use Rattle.fir_check.proofs.CircuitWalks.{module_fails, modules_all, modules_first, modules_next, of_module, types_found}
use Rattle.fir_types.proofs.ModuleItems.{module_there}
use Rattle.fir_check.proofs.modules.in_modules.Goals as goal

pub returns-in_err-table : goal.returns-in_err-table
returns-in_err-table c = let p = err_from_is_err_and c.from_residual.result c.from_residual.ensures.1 in rw (p.1, p.2) tt

pub returns-in_err-bundles : goal.returns-in_err-bundles
returns-in_err-bundles c = let p = err_from_is_err_and c.from_residual-in_err-bundles.result c.from_residual-in_err-bundles.ensures.1 in rw (p.1, p.2) tt

pub returns-in_err-push : goal.returns-in_err-push
returns-in_err-push c = let p = err_from_is_err_and c.from_residual-in_err-push.result c.from_residual-in_err-push.ensures.1 in rw (p.1, p.2) tt

pub loop-number-init : goal.loop-number-init
loop-number-init c =
    let same = c.deref.ensures.value ∙ ap (λ x. x.modules.items) c.circuit.ensures.tree in
    modules_first (circuit_of c.args.named.now).modules c.in_ok-bundles.bundles.items c.add_bundles.new.table c.new-declared.result.items c.new-notes.result.items c.new-declared.ensures.items c.new-notes.ensures.items
    (subst (λ xs. HoldsBundles (types_of c.add_bundles.new.table) c.in_ok-bundles.bundles.items (map module_of xs)) same c.in_ok-bundles.ensures)

pub loop-number-preserved : goal.loop-number-preserved
loop-number-preserved c =
    let tree = c.args.named.now in
    let items = c.deref-part-items.result.now in
    let same = c.deref-part-items.ensures.value ∙ ap (λ x. x.modules.items) c.circuit-2.ensures.tree in
    let i = c.loop-number.number in
    let m = c.part-item.result in
    let within = c.loop-number-test.true in
    let at = c.part-item.is in
    let there = module_there tree items same i m within at in
    let given = c.deref-in-loop-number.ensures.value in
    let of = of_module tree items same i c.in-Some.names.now m within at c.circuit.ensures.named (c.in-Some.ensures (module_of m) there) in
    let holds = subst (λ ids. HoldsBundles (types_of c.loop-number.table) ids (circuit_of tree).modules) (sym given) c.loop-number.invariant.holds in
    modules_next tree items same i c.in_ok-bundles.bundles.items c.deref-in-loop-number.result.now given c.loop-number.table c.loop-number.declared.items
    c.push.new.self.items c.loop-number.notes.items c.push-in-loop-number.new.self.items m c.in_ok-scope.scope c.in_ok-scope.noted within at c.loop-number.invariant
    (c.in_ok-scope.ensures (circuit_of tree).modules of holds) c.in_ok-push.ensures.items c.in_ok-push-2.ensures.items

pub returns-in_err-scope : goal.returns-in_err-scope
returns-in_err-scope c =
    let p = err_from_is_err_and c.from_residual-in_err-scope.result c.from_residual-in_err-scope.ensures.1 in
    let tree = c.args.named.now in
    let items = c.deref-part-items.result.now in
    let same = c.deref-part-items.ensures.value ∙ ap (λ x. x.modules.items) c.circuit-2.ensures.tree in
    let i = c.loop-number.number in
    let m = c.part-item.result in
    let within = c.loop-number-test.true in
    let at = c.part-item.is in
    let there = module_there tree items same i m within at in
    let given = c.deref-in-loop-number.ensures.value in
    let of = of_module tree items same i c.in-Some.names.now m within at c.circuit.ensures.named (c.in-Some.ensures (module_of m) there) in
    let holds = subst (λ ids. HoldsBundles (types_of c.loop-number.table) ids (circuit_of tree).modules) (sym given) c.loop-number.invariant.holds in
    rw (p.1, p.2)
    (module_fails tree items same i c.in_ok-bundles.bundles.items c.loop-number.table c.loop-number.declared.items c.loop-number.notes.items m c.in_err-scope.field-0.0 within at
    c.loop-number.invariant (c.in_err-scope.ensures (circuit_of tree).modules of holds))

pub returns-in_err-first_leaves : goal.returns-in_err-first_leaves
returns-in_err-first_leaves c = let p = err_from_is_err_and c.from_residual-in_err-first_leaves.result c.from_residual-in_err-first_leaves.ensures.1 in rw (p.1, p.2) tt

pub first_leaves-requires-clause-types : goal.first_leaves-requires-clause-types
first_leaves-requires-clause-types c =
    let same = c.deref-part-items.ensures.value ∙ ap (λ x. x.modules.items) c.circuit-2.ensures.tree in
    ap (found_types (types_of c.loop-number.table)) c.deref-3.ensures.value
    ∙ types_found c.args.named.now c.deref-part-items.result.now same c.loop-number.number c.in_ok-bundles.bundles.items c.loop-number.table
    c.loop-number.declared.items c.loop-number.notes.items c.loop-number-test.false c.loop-number.invariant

pub returns : goal.returns
returns c =
    let same = c.deref-part-items.ensures.value ∙ ap (λ x. x.modules.items) c.circuit-2.ensures.tree in
    modules_all c.args.named.now c.deref-part-items.result.now same c.loop-number.number c.in_ok-bundles.bundles.items
    (record { table = c.loop-number.table; declared = c.loop-number.declared; notes = c.loop-number.notes; first_leaves = c.in_ok-first_leaves.first_leaves })
    c.loop-number-test.false c.loop-number.invariant c.in_ok-first_leaves.ensures

pub unreachable-requires : goal.unreachable-requires
unreachable-requires c =
    let same = c.deref-part-items.ensures.value ∙ ap (λ x. x.modules.items) c.circuit-2.ensures.tree in
    c.in_default.ensures (module_of c.part-item.result)
    (module_there c.args.named.now c.deref-part-items.result.now same c.loop-number.number c.part-item.result c.loop-number-test.true c.part-item.is)
