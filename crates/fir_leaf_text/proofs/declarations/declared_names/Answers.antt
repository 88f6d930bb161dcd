use Rattle.std.proofs.Common.{◌≡◌, ◌+◌, [], ◌∷◌, ◌++◌, map, take, sym, ap, ap₂, ◌∙◌}
use Rattle.std.proofs.lemmas.List.{map-append, take_all, take_more}
use Rattle.fir_ast.specs.working.Views.{port_of}
use Rattle.fir_leaf_text.proofs.ModuleNames.{names_of_ports, port_name}
use Rattle.fir_leaf_text.proofs.SearchedNames.{names_of_statements}
use Rattle.fir_leaf_text.proofs.declarations.declared_names.Goals as goal

pub loop-port-preserved : goal.loop-port-preserved
loop-port-preserved c =
    let ports = c.as_slice-port-items.result.now in
    let i = c.loop-port.port-index in
    let port = c.port-item.result in
    let before = take i ports in
    let more : names_of_ports (take (i + 1) ports) ≡ names_of_ports before ++ port.ident.name ∷ [] =
    ap names_of_ports (take_more ports i port c.loop-port-test.true ∙ ap (λ p. before ++ p ∷ []) (sym c.port-item.is))
    ∙ ap (map port_name) (map-append port_of before (port ∷ [])) ∙ map-append port_name (map port_of before) (port_of port ∷ []) in
    c.in_ok-push_name.ensures ∙ ap (λ names. names ++ port.ident.name ∷ []) c.loop-port.invariant ∙ sym more

pub returns : goal.returns
returns c =
    let ports = c.as_slice-port-items in
    let all = take_all c.loop-port.port-index ports.result.now c.loop-port-test.false ∙ ports.ensures.value in
    c.in_ok-push_names_of_block.ensures
    ∙ ap₂ (λ first second. first ++ second) (c.loop-port.invariant ∙ ap names_of_ports all) (ap names_of_statements c.deref.ensures.value)
