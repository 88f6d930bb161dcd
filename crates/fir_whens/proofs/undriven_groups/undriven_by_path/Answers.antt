use Rattle.std.proofs.Common.{◌≡◌, [], subst, ◌∙◌}
use Rattle.fir_ast.specs.working.Views.{circuit_of}
use Rattle.fir_meaning.specs.working.NameGroups.{HasNames}
use Rattle.fir_meaning.specs.TypeGroup.{type_faults}
use Rattle.fir_whens.proofs.undriven_groups.undriven_by_path.Goals as goal

pub returns : goal.returns
returns c =
    let tree = c.args.circuit.now in
    let typed : c.typed-typed.result.now ≡ tree = c.typed-typed.ensures.tree ∙ c.fitted.ensures.tree in
    let named : c.named-named.result.now ≡ tree = c.named-named.ensures.tree ∙ typed in
    let names : HasNames (circuit_of tree) = subst (λ t. HasNames (circuit_of t)) named c.circuit-circuit.ensures.named in
    let types : type_faults (circuit_of tree) ≡ [] = subst (λ t. type_faults (circuit_of t) ≡ []) typed c.named-named.ensures.clear in
    c.leaves_are_undriven_by_path.ensures (circuit_of tree) names types
