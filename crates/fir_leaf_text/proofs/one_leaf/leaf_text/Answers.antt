use Rattle.std.proofs.Common.{◌≤◌, ◌∙◌, length, refl}
use Rattle.std.proofs.lemmas.Option.{slice_get_read}
use Rattle.fir_ast.specs.working.Views.{circuit_of}
use Rattle.fir_leaf_text.proofs.LeafTexts.{leaf_read, leaves_counted, no_leaf, no_module, text_is, writes_text}
use Rattle.fir_leaf_text.proofs.one_leaf.leaf_text.Goals as goal

pub returns-in_default : goal.returns-in_default
returns-in_default c =
    no_module (circuit_of c.args.circuit.now) c.modules.result.now c.modules.ensures.leafed c.args.module_number c.args.leaf c.from_vec.result
    c.in_default.ensures.lookup.3

pub returns-in_default-get : goal.returns-in_default-get
returns-in_default-get c =
    let ms = c.modules.result.now in
    let k = c.args.module_number in
    let part = c.in-Some.part.now in
    let lookup = c.in-Some.ensures.lookup in
    let there = slice_get_read ms (length ms) k part refl lookup.3.0 lookup.1 in
    let past : length part.leaves.items ≤ c.args.leaf = rw c.deref.ensures.value at c.in_default-get.ensures.lookup.3 in
    no_leaf (circuit_of c.args.circuit.now) ms c.modules.ensures.leafed k c.args.leaf c.from_vec-in_default-get.result part there past

pub returns : goal.returns
returns c =
    let ms = c.modules.result.now in
    let k = c.args.module_number in
    let part = c.in-Some.part.now in
    let of = c.in-Some-get.found.now in
    let number = c.leaves_before-number.result in
    let text = c.from_vec-2.result in
    let lookup = c.in-Some.ensures.lookup in
    let there = slice_get_read ms (length ms) k part refl lookup.3.0 lookup.1 in
    let own = c.in-Some-get.ensures.lookup in
    let at = leaf_read part c.deref.result.now c.args.leaf of c.deref.ensures.value own.3.0 own.1 in
    let counted = leaves_counted part c.deref-2.result.now c.args.leaf of.declaration number c.deref-2.ensures.value c.leaves_before-number.ensures in
    let writes =
    writes_text c.typed-typed.result.now c.args.circuit.now k of.declaration number c.new-text.result.items c.put_declared_leaf.new.text.items text
    (c.typed-typed.ensures.tree ∙ c.fitted.ensures.tree) c.new-text.ensures.items c.from_vec-2.ensures c.in_ok-put_declared_leaf.ensures in
    text_is (circuit_of c.args.circuit.now) ms c.modules.ensures.leafed k c.args.leaf text part there c.leaves_are_declared.ensures of at number counted writes
