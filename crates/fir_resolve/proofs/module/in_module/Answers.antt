use Rattle.fir_ast.specs.working.Views.{module_of}
use Rattle.fir_meaning.specs.Visibility.{declarations}
use Rattle.fir_resolve.proofs.WalkedModules.{module_told, module_passed}
use Rattle.fir_resolve.proofs.module.in_module.Goals as goal

pub returns-in-Some : goal.returns-in-Some
returns-in-Some c = λ modules numbered.
    module_told modules (module_of c.args.part.now) c.new-scope.result c.in_parts.new.scope c.in_ok-fault.field-0 c.in-Some.fault c.in-Some.is
    (c.in_ok-fault.ensures modules numbered (c.new-scope.ensures modules))

pub returns-in-None : goal.returns-in-None
returns-in-None c = λ modules numbered.
    let m = module_of c.args.part.now in
    let passed =
    module_passed modules m c.new-scope.result c.in_parts.new.scope c.in_ok-fault.field-0 c.in-None.is
    (c.in_ok-fault.ensures modules numbered (c.new-scope.ensures modules)) in
    (passed.0, c.into_names.ensures modules (declarations m) passed.1)
