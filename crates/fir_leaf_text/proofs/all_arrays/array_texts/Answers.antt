use Rattle.std.proofs.Common.{◌≡◌, ◌≤◌, ◌++◌, ◌∙◌, length, ap, arith}
use Rattle.fir_ast.specs.declared.circuit.Circuit.{Circuit}
use Rattle.fir_leaf_text.proofs.ArraysLeft.{module_arrays, no_arrays, texts_of_statements}
use Rattle.fir_leaf_text.proofs.DeclaredTexts.{part_there}
use Rattle.fir_leaf_text.proofs.all_arrays.array_texts.Goals as goal

pub returns-in_default : goal.returns-in_default
returns-in_default c =
    let tree = c.args.circuit.now in
    let k = c.args.module_number in
    let same : c.circuit.result.now ≡ tree = c.circuit.ensures.tree ∙ c.named-named.ensures.tree ∙ c.typed.ensures.tree ∙ c.fitted.ensures.tree in
    let past : length tree.modules.items ≤ k =
    omega (arith, c.in_default.ensures.lookup.3, ap length (c.as_slice.ensures.value ∙ ap (λ (t : Circuit). t.modules.items) same)) in
    no_arrays tree k c.new-texts.result.items past

pub returns : goal.returns
returns c =
    let tree = c.args.circuit.now in
    let k = c.args.module_number in
    let part = c.in-Some.part.now in
    let body = c.deref.result.now in
    let lookup = c.in-Some.ensures.lookup in
    let same : c.circuit.result.now ≡ tree = c.circuit.ensures.tree ∙ c.named-named.ensures.tree ∙ c.typed.ensures.tree ∙ c.fitted.ensures.tree in
    let there = part_there tree c.circuit.result.now c.as_slice.result.now k part same c.as_slice.ensures.value lookup.3.0 lookup.1 in
    module_arrays tree k part body c.push_texts_of_block.new.texts.items there c.deref.ensures.value
    (c.in_ok-push_texts_of_block.ensures ∙ ap (λ texts. texts ++ texts_of_statements body) c.new-texts.ensures.items)
