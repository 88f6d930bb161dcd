use Rattle.std.proofs.Common.{◌≡◌, ◌++◌, ap, ◌∙◌}
use Rattle.std.proofs.lemmas.Option.{none-some, same_Some}
use Rattle.fir_leaf_text.proofs.DeclaredTexts.{name_there, part_there}
use Rattle.fir_leaf_text.proofs.declared_leaf.put_name.Goals as goal

pub returns-in_default-declared_name : goal.returns-in_default-declared_name
returns-in_default-declared_name c = λ number path leaf.
    let k = c.args.module_number in
    let part = c.in-Some.part.now in
    let lookup = c.in-Some.ensures.lookup in
    let there =
    part_there c.args.named.now c.circuit.result.now c.as_slice.result.now k part c.circuit.ensures.tree c.as_slice.ensures.value lookup.3.0 lookup.1 in
    let no : ⊥ =
    none-some leaf.known.name
    (c.in_default-declared_name.ensures ∙ name_there c.args.named.now k c.args.position number path leaf part there) in
    absurd {A = c.args.text.now.items ≡ c.args.text.now.items ++ leaf.known.name} no

pub returns : goal.returns
returns c = λ number path leaf.
    let k = c.args.module_number in
    let part = c.in-Some.part.now in
    let name = c.in-Some-declared_name.name.now in
    let lookup = c.in-Some.ensures.lookup in
    let there =
    part_there c.args.named.now c.circuit.result.now c.as_slice.result.now k part c.circuit.ensures.tree c.as_slice.ensures.value lookup.3.0 lookup.1 in
    let same =
    same_Some name leaf.known.name
    (c.in-Some-declared_name.ensures ∙ name_there c.args.named.now k c.args.position number path leaf part there) in
    c.in_ok-extend_from_slice.ensures.items ∙ ap (λ l. c.args.text.now.items ++ l) (c.as_bytes.ensures ∙ same)
