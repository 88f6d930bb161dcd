use Rattle.std.proofs.Common.{◌≡◌, [], map, length, sym, ap, ◌∙◌, arith}
use Rattle.std.proofs.lemmas.List.{length-map}
use Rattle.fir_ast.specs.working.Views.{block_of, port_of, stmt_of}
use Rattle.fir_meaning.specs.Visibility.{at_head, behind_ports}
use Rattle.fir_infer_resets.specs.declared.meets.Walk.{Walk}
use Rattle.fir_infer_resets.proofs.ModulesMet.{module_ahead, module_met, ports_counted}
use Rattle.fir_infer_resets.proofs.circuit.in_module.Goals as goal

pub returns : goal.returns
returns c =
    let part = c.args.part.now in
    let body = block_of (map stmt_of c.deref.result.now) in
    let old : Walk = record { notes = c.args.notes; declared = c.len.result; meets = c.new.result } in
    λ ts m is ahead.
    let before = behind_ports at_head m.inside.ports in
    let same = ap (λ xs. block_of (map stmt_of xs)) c.deref.ensures.value ∙ sym (ap (λ x. x.body) is) in
    let ports : length m.inside.ports ≡ length part.ports.items = ap (λ x. length x.ports) is ∙ length-map part.ports.items port_of in
    let counted = ports_counted at_head m.inside.ports in
    let declared : c.len.result ≡ length before.declared = omega (arith, c.len.ensures, part.ports.ok.0) in
    let met = c.in_ok-in_block.ensures ts m before [] (module_ahead ts m body same c.args.notes.now ahead) declared in
    module_met ts m body same _ old c.in_block.new.walk c.new.ensures.items met
