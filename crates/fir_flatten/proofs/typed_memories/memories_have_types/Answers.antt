use Rattle.std.proofs.Common.{◌≡◌, [], subst, ◌∙◌}
use Rattle.fir_ast.specs.working.Views.{circuit_of}
use Rattle.fir_meaning.specs.working.NameGroups.{HasNames}
use Rattle.fir_meaning.specs.TypeGroup.{type_faults}
use Rattle.fir_meaning.specs.working.WidthLaws.{FitsAll}
use Rattle.fir_flatten.proofs.MemoriesOfScenes.{all_memories_typed}
use Rattle.fir_flatten.proofs.typed_memories.memories_have_types.Goals as goal

pub returns : goal.returns
returns c =
    let tree = c.args.circuit.now in
    let fitted : c.fitted.result.now ≡ tree = c.fitted.ensures.tree in
    let typed : c.typed-typed.result.now ≡ tree = c.typed-typed.ensures.tree ∙ fitted in
    let named : c.named-named.result.now ≡ tree = c.named-named.ensures.tree ∙ typed in
    let names : HasNames (circuit_of tree) = subst (λ t. HasNames (circuit_of t)) named c.circuit-circuit.ensures.named in
    let types : type_faults (circuit_of tree) ≡ [] = subst (λ t. type_faults (circuit_of t) ≡ []) typed c.named-named.ensures.clear in
    let fits : FitsAll (circuit_of tree) = subst (λ t. FitsAll (circuit_of t)) fitted c.typed-typed.ensures.fits in
    all_memories_typed (circuit_of tree) c.memories_are_typed.ensures c.one_least.ensures names types fits
