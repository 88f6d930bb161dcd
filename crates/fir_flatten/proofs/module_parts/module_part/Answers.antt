use Rattle.std.proofs.Common.{◌≡◌, [], length, ap₂, subst, ◌∙◌, arith}
use Rattle.fir_ast.specs.declared.circuit.Circuit.{Circuit}
use Rattle.fir_ast.specs.working.Views.{circuit_of}
use Rattle.fir_base.proofs.Elements.{get_in}
use Rattle.fir_design.proofs.FineScenes.{fine_scene}
use Rattle.fir_driven.specs.working.DrivenFlags.{AreDriven}
use Rattle.fir_elaborate.proofs.ViewedLeaves.{as_many}
use Rattle.fir_leaf.specs.working.NodeBlocks.{block_in}
use Rattle.fir_leaf_text.proofs.SceneLeaves.{inside_there}
use Rattle.fir_meaning.specs.SizedDeclarations.{numbered_modules}
use Rattle.fir_meaning.specs.TypeGroup.{type_faults}
use Rattle.fir_meaning.specs.working.LeafBlocks.{LeafBlock}
use Rattle.fir_meaning.specs.working.LeafedModules.{leafed_module}
use Rattle.fir_meaning.specs.working.NameGroups.{HasNames}
use Rattle.fir_flatten.proofs.PartTerms.{roles_below}
use Rattle.fir_flatten.proofs.module_parts.module_part.Goals as goal

pub returns : goal.returns
returns c = λ s scene.
    let tree = c.args.circuit.now in
    let typed : c.typed.result.now ≡ tree = c.typed.ensures.tree ∙ c.fitted.ensures.tree in
    let named : c.named-named.result.now ≡ tree = c.named-named.ensures.tree ∙ typed in
    let names : HasNames (circuit_of tree) = subst (λ (t : Circuit). HasNames (circuit_of t)) named c.circuit-circuit.ensures.named in
    let types : type_faults (circuit_of tree) ≡ [] = subst (λ (t : Circuit). type_faults (circuit_of t) ≡ []) typed c.named-named.ensures.clear in
    let fine = fine_scene (circuit_of tree) s names types (get_in (numbered_modules (circuit_of tree)) c.args.number s.own scene.own) in
    let part = c.args.part.now in
    let view = c.requires.view s scene in
    let many : c.len.result ≡ length (leafed_module s).leaves = omega (arith, c.len.ensures, part.leaves.ok.0, as_many part (leafed_module s) view) in
    let body : block_in c.deref.result.now c.deref-2.result.now ≡ (leafed_module s).body =
    ap₂ block_in c.deref.ensures.value c.deref-2.ensures.value ∙ view.body in
    let flags = c.in_ok-driven_leaves.field-0.items in
    record {
      view = view;
      is_net = c.requires.net s scene;
      before = c.as_slice-nodes.ensures.before;
      reads = λ x lt. roles_below s fine x lt;
      texts =
          c.in_ok-leaf_texts.ensures s.own.inside (inside_there (circuit_of tree) c.args.number s.own scene.own) (c.requires.names s scene) s
          scene;
      driven =
          subst (λ n. AreDriven n (leafed_module s).body flags) many
          (subst (λ (b : LeafBlock). AreDriven c.len.result b flags) body c.in_ok-driven_leaves.ensures);
      array_texts = c.in_ok-array_texts.ensures s scene;
    }
