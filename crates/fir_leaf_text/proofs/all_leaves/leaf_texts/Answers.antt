use Rattle.std.proofs.Common.{◌≡◌, ◌++◌, ◌∙◌, subst}
use Rattle.fir_ast.specs.declared.circuit.Circuit.{Circuit}
use Rattle.fir_ast.specs.working.Views.{circuit_of}
use Rattle.fir_leaf_text.specs.working.TextsOfLeaves.{declared_texts}
use Rattle.fir_leaf_text.proofs.AllTexts.{all_declared, one_declared}
use Rattle.fir_leaf_text.proofs.all_leaves.leaf_texts.Goals as goal

pub loop-position-preserved : goal.loop-position-preserved
loop-position-preserved c = λ m here named.
    let tree = c.args.circuit.now in
    let k = c.args.module_number in
    let position = c.loop-position.position in
    let name = c.index-names-position.result in
    let old = c.loop-position.texts.items in
    let new = c.push_declared_texts.new.texts.items in
    one_declared (circuit_of tree) k m here c.args.names.now named position old (c.loop-position.invariant m here named) name new
    c.loop-position-test.true c.index-names-position.is
    (subst (λ (t : Circuit). new ≡ old ++ declared_texts (circuit_of t) k position name) (c.typed-typed.ensures.tree ∙ c.fitted.ensures.tree)
    c.in_ok-push_declared_texts.ensures)

pub returns : goal.returns
returns c = λ m here named.
    let tree = c.args.circuit.now in
    all_declared (circuit_of tree) c.args.module_number m here c.args.names.now named c.loop-position.position c.loop-position.texts.items
    (c.loop-position.invariant m here named) c.leaves_are_declared.ensures c.loop-position-test.false
