use Rattle.std.proofs.Common.{◌≡◌, ℕ, [], map, sym, ap, ◌∙◌, subst, slice_get}
use Rattle.std.proofs.lemmas.Option.{same_Some}
use Rattle.fir_ast.specs.Circuits.{CircuitTree}
use Rattle.fir_ast.specs.working.Views.{circuit_of}
use Rattle.fir_elaborate.specs.working.Elaborations.{IsElaborated}
use Rattle.fir_leaf_circuit.specs.working.Leafed.{AreLeafed}
use Rattle.fir_meaning.specs.TypeGroup.{type_faults}
use Rattle.fir_meaning.specs.working.Elaborated.{views}
use Rattle.fir_meaning.specs.working.NameGroups.{HasNames}
use Rattle.fir_meaning.specs.working.Scenes.{HasScenes}
use Rattle.fir_names.specs.working.ModuleOrder.{IsModuleOrder}
use Rattle.fir_whens.specs.working.ModuleNets.{AreAllTyped}
use Rattle.fir_flatten.specs.working.CircuitParts.{names_by_modules, number_of_main}
use Rattle.fir_flatten.specs.working.DesignParts.{HasDesign}
use Rattle.fir_flatten.proofs.DesignsOfCircuits.{has_design, some_main}
use Rattle.fir_flatten.proofs.ViewedModules.{are_viewed, main_is_design, main_within}
use Rattle.fir_flatten.proofs.design_parts.design_parts.Goals as goal

pub unreachable-requires : goal.unreachable-requires
unreachable-requires c =
    let tree = c.args.circuit.now in
    let circuit : CircuitTree = circuit_of tree in
    let leafed : c.leafed-leafed.result.now ≡ tree = c.leafed-leafed.ensures.tree in
    let fitted : c.fitted.result.now ≡ tree = c.fitted.ensures.tree ∙ leafed in
    let typed : c.typed.result.now ≡ tree = c.typed.ensures.tree ∙ fitted in
    let named : c.named-named.result.now ≡ tree = c.named-named.ensures.tree ∙ typed in
    let given : c.circuit-tree.result.now ≡ tree = c.circuit-tree.ensures.tree ∙ named in
    let design : HasDesign circuit =
    has_design c.has_sound_designs.ensures circuit c.module_order-order.result.now
    (subst (λ t. HasNames (circuit_of t)) named c.circuit-tree.ensures.named)
    (subst (λ t. type_faults (circuit_of t) ≡ []) typed c.named-named.ensures.clear)
    (subst (λ t. HasScenes (circuit_of t)) leafed c.modules-leafed_modules.ensures.scenes)
    (subst (λ t. IsModuleOrder (circuit_of t) c.module_order-order.result.now) named c.module_order-order.ensures) in
    some_main circuit design (sym c.in_default.is ∙ c.main_number.ensures ∙ ap (λ t. number_of_main (circuit_of t)) given)

pub module_parts-requires : goal.module_parts-requires
module_parts-requires c =
    let tree = c.args.circuit.now in
    let circuit : CircuitTree = circuit_of tree in
    let leafed : c.leafed-leafed.result.now ≡ tree = c.leafed-leafed.ensures.tree in
    let fitted : c.fitted.result.now ≡ tree = c.fitted.ensures.tree ∙ leafed in
    let typed : c.typed.result.now ≡ tree = c.typed.ensures.tree ∙ fitted in
    let named : c.named-named.result.now ≡ tree = c.named-named.ensures.tree ∙ typed in
    let given : c.circuit-tree.result.now ≡ tree = c.circuit-tree.ensures.tree ∙ named in
    rw c.deref.ensures.value (c.in_ok-names.ensures ∙ ap (λ t. names_by_modules (circuit_of t)) given)

pub returns : goal.returns
returns c =
    let tree = c.args.circuit.now in
    let circuit : CircuitTree = circuit_of tree in
    let leafed : c.leafed-leafed.result.now ≡ tree = c.leafed-leafed.ensures.tree in
    let fitted : c.fitted.result.now ≡ tree = c.fitted.ensures.tree ∙ leafed in
    let typed : c.typed.result.now ≡ tree = c.typed.ensures.tree ∙ fitted in
    let named : c.named-named.result.now ≡ tree = c.named-named.ensures.tree ∙ typed in
    let given : c.circuit-tree.result.now ≡ tree = c.circuit-tree.ensures.tree ∙ named in
    let design : HasDesign circuit =
    has_design c.has_sound_designs.ensures circuit c.module_order-order.result.now
    (subst (λ t. HasNames (circuit_of t)) named c.circuit-tree.ensures.named)
    (subst (λ t. type_faults (circuit_of t) ≡ []) typed c.named-named.ensures.clear)
    (subst (λ t. HasScenes (circuit_of t)) leafed c.modules-leafed_modules.ensures.scenes)
    (subst (λ t. IsModuleOrder (circuit_of t) c.module_order-order.result.now) named c.module_order-order.ensures) in
    let names_are : map (λ ns. ns.items) c.in_ok-names.names.items ≡ names_by_modules circuit =
    c.in_ok-names.ensures ∙ ap (λ t. names_by_modules (circuit_of t)) given in
    let are_leafed : AreLeafed circuit c.modules-leafed_modules.result.now =
    subst (λ t. AreLeafed (circuit_of t) c.modules-leafed_modules.result.now) leafed c.modules-leafed_modules.ensures.leafed in
    let main_is : c.in-Some.main ≡ design.number =
    same_Some c.in-Some.main design.number
    (sym c.in-Some.is ∙ c.main_number.ensures ∙ ap (λ t. number_of_main (circuit_of t)) given ∙ design.number_is) in
    let walked = rw c.deref-2.ensures.value at c.in_ok-elaborated.ensures in
    record {
      design = design;
      typed = subst (λ t. AreAllTyped (circuit_of t)) leafed c.modules_are_typed.ensures;
      driven = c.leafed-leafed.ensures.driven;
      named = names_are;
      parts = c.in_ok-modules.ensures;
      elaborated =
          subst (λ (n : ℕ). IsElaborated n design.design c.in_ok-elaborated.elaborated) main_is
          (walked (views design.scenes) design.design
          (are_viewed circuit design.scenes design.main design.design design.designed c.modules_are_ordered.ensures c.modules-leafed_modules.result.now
          are_leafed (map (λ ns. ns.items) c.in_ok-names.names.items) names_are)
          (main_within circuit design.scenes design.main design.design design.designed c.in-Some.main (ap (slice_get design.scenes) main_is ∙ design.at))
          (main_is_design circuit design.scenes design.main design.design design.designed c.in-Some.main
          (ap (slice_get design.scenes) main_is ∙ design.at)));
    }
