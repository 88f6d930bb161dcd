use Rattle.std.proofs.Common.{◌+◌, map, drop}
use Rattle.fir_ast.specs.working.Views.{module_of}
use Rattle.fir_names.proofs.FirstMentions.{views_left}
use Rattle.fir_resolve.proofs.WalkedModules.{modules_next}
use Rattle.fir_resolve.proofs.modules.in_modules.Goals as goal

pub loop-part-preserved : goal.loop-part-preserved
loop-part-preserved c = λ names numbered.
    let modules = c.args.modules.now in
    let m = c.part-item.result in
    let left = views_left module_of modules c.loop-part.part-index m c.loop-part-test.true c.part-item.is in
    rw c.in_ok-push.ensures.items
    (modules_next names c.loop-part.namespace c.declare.new.self c.loop-part.tables.items (map module_of modules)
    (map module_of (drop (c.loop-part.part-index + 1) modules)) (module_of m) c.in_ok-in_module.field-0 c.in_ok-fault.field-0 c.in_default.is
    c.in_ok-fault.ensures.fault (c.in_ok-fault.ensures.held c.in_default.is) (c.in_ok-in_module.ensures names numbered)
    (rw (← left) (c.loop-part.invariant names numbered)))
