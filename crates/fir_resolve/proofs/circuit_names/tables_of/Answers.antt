use Rattle.std.proofs.Common.{Err, map, subst, sym}
use Rattle.std.proofs.lemmas.Result.{err_from_is_err_and}
use Rattle.fir_ast.specs.working.Views.{circuit_of, module_of}
use Rattle.fir_meaning.specs.Mentions.{module_names}
use Rattle.fir_names.specs.working.Judged.{JudgesModules, TabulatesEach}
use Rattle.fir_names.specs.working.Numbered.{HasNumbers, names_of}
use Rattle.fir_resolve.proofs.FirstOfGroups.{judges_names, judges_main, judges_order, judges_ok, names_clear}
use Rattle.fir_resolve.proofs.circuit_names.tables_of.Goals as goal

pub returns-in_err-tables : goal.returns-in_err-tables
returns-in_err-tables c =
    let p = err_from_is_err_and c.from_residual-in_err-tables.result c.from_residual-in_err-tables.ensures.1 in
    let tree = circuit_of c.args.circuit.now in
    let numbers = subst (λ items. HasNumbers c.in_ok-numbers.numbers (names_of (map module_of items))) c.deref.ensures.value c.in_ok-numbers.ensures in
    rw (p.1, p.2)
    (judges_names tree c.in_err-tables.field-0.0
    (subst (λ items. JudgesModules (module_names tree) (map module_of items) (Err c.in_err-tables.field-0.0)) c.deref-2.ensures.value
    (c.in_err-tables.ensures (module_names tree) numbers)))

pub returns-in-Some : goal.returns-in-Some
returns-in-Some c =
    let tree = circuit_of c.args.circuit.now in
    let numbers = subst (λ items. HasNumbers c.in_ok-numbers.numbers (names_of (map module_of items))) c.deref.ensures.value c.in_ok-numbers.ensures in
    let tables = rw c.deref-2.ensures.value at (c.in_ok-tables.ensures (module_names tree) numbers) in
    judges_main tree c.in-Some.fault tables.0 (rw c.in-Some.is at (c.in_ok-fault.ensures numbers))

pub module_order-requires : goal.module_order-requires
module_order-requires c =
    let tree = circuit_of c.args.circuit.now in
    let numbers = subst (λ items. HasNumbers c.in_ok-numbers.numbers (names_of (map module_of items))) c.deref.ensures.value c.in_ok-numbers.ensures in
    let tables = rw c.deref-2.ensures.value at (c.in_ok-tables.ensures (module_names tree) numbers) in
    record {
      tabulated = subst (λ ts. TabulatesEach (module_names tree) ts tree.modules) (sym c.deref-3.ensures.value) tables.1;
      names = names_clear tree tables.0;
    }

pub returns-in_err-order : goal.returns-in_err-order
returns-in_err-order c =
    let p = err_from_is_err_and c.from_residual-in_err-order.result c.from_residual-in_err-order.ensures.1 in
    let tree = circuit_of c.args.circuit.now in
    let numbers = subst (λ items. HasNumbers c.in_ok-numbers.numbers (names_of (map module_of items))) c.deref.ensures.value c.in_ok-numbers.ensures in
    let tables = rw c.deref-2.ensures.value at (c.in_ok-tables.ensures (module_names tree) numbers) in
    rw (p.1, p.2)
    (judges_order tree c.in_err-order.field-0.0 tables.0 (rw c.in_default.is at (c.in_ok-fault.ensures numbers)) c.in_err-order.ensures)

pub returns : goal.returns
returns c =
    let tree = circuit_of c.args.circuit.now in
    let numbers = subst (λ items. HasNumbers c.in_ok-numbers.numbers (names_of (map module_of items))) c.deref.ensures.value c.in_ok-numbers.ensures in
    let tables = rw c.deref-2.ensures.value at (c.in_ok-tables.ensures (module_names tree) numbers) in
    judges_ok tree c.in_ok-tables.tables c.in_ok-order.order tables (rw c.in_default.is at (c.in_ok-fault.ensures numbers)) c.in_ok-order.ensures
