use Rattle.std.proofs.Common.{◌≡◌, [], subst, ◌∙◌}
use Rattle.fir_ast.specs.working.Views.{circuit_of}
use Rattle.fir_meaning.specs.working.NameGroups.{HasNames}
use Rattle.fir_meaning.specs.TypeGroup.{type_faults}
use Rattle.fir_names.specs.working.ModuleOrder.{IsModuleOrder}
use Rattle.fir_expand.proofs.source_meaning.means_its_source.Goals as goal

pub returns : goal.returns
returns c =
    let tree = c.args.circuit.now in
    let typed : c.typed.result.now ≡ tree = c.typed.ensures.tree ∙ c.fitted.ensures.tree in
    let named : c.named-named.result.now ≡ tree = c.named-named.ensures.tree ∙ typed in
    c.circuits_mean_their_sources.ensures (circuit_of tree) c.module_order-order.result.now
    (subst (λ t. HasNames (circuit_of t)) named c.circuit-circuit.ensures.named)
    (subst (λ t. type_faults (circuit_of t) ≡ []) typed c.named-named.ensures.clear)
    (subst (λ t. IsModuleOrder (circuit_of t) c.module_order-order.result.now) named c.module_order-order.ensures)
    c.modules-modules.ensures.scenes
