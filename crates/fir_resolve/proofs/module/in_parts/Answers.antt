use Rattle.std.proofs.Common.{map, refl, ap}
use Rattle.std.proofs.lemmas.Result.{IfOk-weaker}
use Rattle.fir_ast.specs.working.Views.{block_of, module_of, port_of, stmt_of}
use Rattle.fir_meaning.specs.Visibility.{at_head, behind_ports}
use Rattle.fir_resolve.proofs.WalkedModules.{ports_told, body_passed}
use Rattle.fir_resolve.proofs.module.in_parts.Goals as goal

pub returns-in-Some : goal.returns-in-Some
returns-in-Some c = λ modules numbered w.
    let m = module_of c.args.part.now in
    ports_told modules m (map port_of c.deref.result.now) m.body (ap (map port_of) c.deref.ensures.value) refl c.args.scope.now c.in_ports.new.scope
    c.in_ports.new.scope c.in_ok-fault.field-0 c.in-Some.fault c.in-Some.is (c.in_ok-fault.ensures modules at_head w)

pub returns : goal.returns
returns c =
    let m = module_of c.args.part.now in
    let ports = map port_of c.deref.result.now in
    let body = block_of (map stmt_of c.deref-2.result.now) in
    let first = ap (map port_of) c.deref.ensures.value in
    let second = ap (λ b. block_of (map stmt_of b)) c.deref-2.ensures.value in
    IfOk-weaker c.in_block.result _ _
    (λ f walk. λ modules numbered w.
    let p = c.in_ok-fault.ensures modules at_head w in
    body_passed modules m ports body first second c.args.scope.now c.in_ports.new.scope c.in_block.new.scope c.in_ok-fault.field-0 f c.in_default.is p
    (walk modules (behind_ports at_head ports) numbered (p.walked c.in_default.is)))
    c.in_block.ensures
