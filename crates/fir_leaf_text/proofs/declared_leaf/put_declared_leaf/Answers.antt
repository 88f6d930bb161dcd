use Rattle.std.proofs.Common.{◌≡◌, ◌++◌, ℕ, subst}
use Rattle.std.proofs.lemmas.Result.{on_ok_weaker}
use Rattle.fir_ast.specs.declared.circuit.Circuit.{Circuit}
use Rattle.fir_ast.specs.working.Views.{circuit_of}
use Rattle.fir_meaning.specs.LeafPaths.{LeafPath}
use Rattle.fir_leaf_text.specs.working.DeclaredLeaves.{IsDeclaredLeaf}
use Rattle.fir_leaf_text.proofs.DeclaredTexts.{both_written}
use Rattle.fir_leaf_text.proofs.declared_leaf.put_declared_leaf.Goals as goal

pub returns : goal.returns
returns c =
    let old = c.args.text.now.items in
    let mid = c.put_name.new.text.items in
    let new = c.put_steps.new.text.items in
    let named =
    subst
    (λ (tree : Circuit). (number : ℕ) (path : LeafPath)
    (leaf : IsDeclaredLeaf (circuit_of tree) c.args.module_number c.args.position number path) → mid ≡ old ++ leaf.known.name)
    c.named.ensures.tree c.in_ok-put_name.ensures in
    on_ok_weaker c.put_steps.result
    (λ steps path leaf.
    both_written (circuit_of c.args.typed.now) c.args.module_number c.args.position c.args.number path leaf old mid new
    (named c.args.number path leaf) (steps path leaf))
    c.put_steps.ensures
