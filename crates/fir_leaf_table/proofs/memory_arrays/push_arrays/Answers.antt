use Rattle.std.proofs.Common.{◌≡◌, ◌<◌, ◌≤◌, false, get_or, length, ap, sym, ◌∙◌}
use Rattle.std.proofs.lemmas.List.{length-map}
use Rattle.fir_leaf_circuit.specs.declared.array.LeafArray.{LeafArray}
use Rattle.fir_leaf_circuit.specs.declared.leaf.LeafType.{LeafType}
use Rattle.fir_leaf_circuit.specs.declared.leaf.LeafType.TheVariants.{Number}
use Rattle.fir_leaf_circuit.specs.working.Seen.{type_seen}
use Rattle.fir_leaf_table.proofs.ArraysLeft.{array_same, arrays_done, arrays_next}
use Rattle.fir_leaf_table.proofs.memory_arrays.push_arrays.Goals as goal

pub loop-leaf-preserved : goal.loop-leaf-preserved
loop-leaf-preserved c = λ meant leaves holds is long.
    let m = c.args.memory.now in
    let i = c.loop-leaf.leaf in
    let none : LeafType = Number (record { signed = false; width = 0 }) in
    let x = get_or c.deref-holds-items.result.now i none in
    let writings = c.in_ok-writings.field-0 in
    let a : LeafArray = record { declaration = m.declaration; holds = x; words = m.words; writings = writings } in
    let counted : length leaves ≡ length m.data.items = long ∙ ap length (sym is.holds_are) ∙ length-map m.data.items type_seen in
    let within : i < length m.data.items = rw (← c.deref-holds-items.ensures.value) c.loop-leaf-test.true in
    arrays_next m meant holds is leaves counted i x none c.loop-leaf.arrays.items c.push.new.self.items a _ within
    (ap (λ xs. get_or xs i none) c.deref-holds-items.ensures.value)
    (array_same m meant holds is i x writings (c.in_ok-writings.ensures meant holds is))
    c.in_ok-push.ensures.items (c.loop-leaf.invariant meant leaves holds is long)

pub returns : goal.returns
returns c = λ meant leaves holds is long.
    let m = c.args.memory.now in
    let counted : length leaves ≡ length m.data.items = long ∙ ap length (sym is.holds_are) ∙ length-map m.data.items type_seen in
    let past : length m.data.items ≤ c.loop-leaf.leaf = rw (← c.deref-holds-items.ensures.value) c.loop-leaf-test.false in
    arrays_done m meant holds is leaves counted c.loop-leaf.leaf c.loop-leaf.arrays.items _ past (c.loop-leaf.invariant meant leaves holds is long)
