use Rattle.std.proofs.Common.{◌≡◌, [], subst, ◌∙◌}
use Rattle.fir_ast.specs.working.Views.{circuit_of}
use Rattle.fir_meaning.specs.working.NameGroups.{HasNames}
use Rattle.fir_meaning.specs.TypeGroup.{type_faults}
use Rattle.fir_leaf_circuit.specs.working.Leafed.{AreLeafed}
use Rattle.fir_meaning.specs.working.Scenes.{HasScenes}
use Rattle.fir_leaf_circuit.proofs.CodeStores.{stores_of_code}
use Rattle.fir_leaf_circuit.proofs.leaf_circuit.LeafCircuit.modules.Goals as goal

pub returns-clause-stores : goal.returns-clause-stores
returns-clause-stores c =
    let tree = c.args.self.now in
    let typed : c.typed.result.now ≡ tree = c.typed.ensures.tree ∙ c.self.view_is in
    let named : c.named-named.result.now ≡ tree = c.named-named.ensures.tree ∙ typed in
    let names : HasNames (circuit_of tree) = subst (λ t. HasNames (circuit_of t)) named c.circuit-circuit.ensures.named in
    let types : type_faults (circuit_of tree) ≡ [] = subst (λ t. type_faults (circuit_of t) ≡ []) typed c.named-named.ensures.clear in
    let leafed : AreLeafed (circuit_of tree) c.self.inside.modules.items =
    subst (λ t. AreLeafed (circuit_of t) c.self.inside.modules.items) c.self.view_is c.self.invariant.1 in
    rw c.deref.ensures.value
    (stores_of_code (circuit_of tree) c.self.inside.modules.items c.table_stores.ensures c.table_has_facts.ensures c.numbers_are_leaves.ensures names types leafed)

pub returns-clause-scenes : goal.returns-clause-scenes
returns-clause-scenes c = subst (λ t. HasScenes (circuit_of t)) c.self.view_is c.has_scenes.ensures
