use Rattle.std.proofs.Common.{◌≡◌, [], ◌∙◌, subst}
use Rattle.fir_ast.specs.working.Views.{circuit_of}
use Rattle.fir_meaning.specs.working.NameGroups.{HasNames}
use Rattle.fir_meaning.specs.TypeGroup.{type_faults}
use Rattle.fir_leaf_circuit.proofs.ModuleScenes.{module_scenes}
use Rattle.fir_leaf_circuit.proofs.scenes.has_scenes.Goals as goal

pub returns : goal.returns
returns c =
    let typed = c.typed-typed.ensures.tree in
    module_scenes (circuit_of c.args.fitted.now)
    (subst (λ t. HasNames (circuit_of t)) (c.named.ensures.tree ∙ typed) c.circuit-circuit.ensures.named)
    (subst (λ t. type_faults (circuit_of t) ≡ []) typed c.named.ensures.clear)
    c.typed-typed.ensures.fits c.resets-resets.result.now c.resets-resets.ensures
