use Rattle.std.proofs.Common.{◌≡◌, List, [], ◌∷◌, ◌++◌, Some, None, get_or, take, map, refl, sym, ap, ◌∙◌, arith, append_assoc}
use Rattle.std.proofs.lemmas.List.{map_push}
use Rattle.fir_base.proofs.Elements.{get_in}
use Rattle.fir_net_names.specs.working.LeafNamed.{name_at}
use Rattle.trace_text.specs.declared.shape.StateWord.{StateWord}
use Rattle.fir_tick.specs.working.StateWords.{array_word}
use Rattle.fir_tick.proofs.OrderArrays.{array_next, array_stands, array_within, array_width, array_words, few_each}
use Rattle.fir_tick.proofs.array_words.put_array_words.Goals as goal

pub unreachable-requires : goal.unreachable-requires
unreachable-requires c =
    let net = c.args.net.now in
    let order = c.as_slice-order.result.now in
    let i = c.loop-number.number-index in
    let number = get_or order i 0 in
    let stands = array_stands net c.requires.whole order c.as_slice-order.ensures i c.loop-number-test.true in
    let has = c.requires.named.has_array number (get_in net.array_order i number stands) in
    let none : None ≡ name_at c.args.table.now.arrays number = rw c.in_default.is at c.array.ensures in
    let name = has.1 in
    cc

pub put_array_word-requires : goal.put_array_word-requires
put_array_word-requires c =
    let net = c.args.net.now in
    let order = c.as_slice-order.result.now in
    let i = c.loop-number.number-index in
    let number = get_or order i 0 in
    let there = array_within net c.requires.whole order c.as_slice-order.ensures i c.loop-number-test.true in
    let stands = array_stands net c.requires.whole order c.as_slice-order.ensures i c.loop-number-test.true in
    let few = few_each net c.requires.whole number (get_in net.array_order i number stands) in
    let words = array_words net number there c.as_slice-arrays.result.now c.as_slice-arrays.ensures c.index-arrays-number.result c.index-arrays-number.is in
    omega (arith, few, words)

pub loop-number-preserved : goal.loop-number-preserved
loop-number-preserved c =
    let net = c.args.net.now in
    let names = c.args.table.now.arrays in
    let order = c.as_slice-order.result.now in
    let i = c.loop-number.number-index in
    let number = get_or order i 0 in
    let array = c.index-arrays-number.result in
    let name = c.in-Some.name.now in
    let old = take i net.array_order in
    let there = array_within net c.requires.whole order c.as_slice-order.ensures i c.loop-number-test.true in
    let next = array_next net c.requires.whole order c.as_slice-order.ensures i c.loop-number-test.true in
    let wide = array_width net number there c.as_slice-arrays.result.now c.as_slice-arrays.ensures array c.index-arrays-number.is in
    let words = array_words net number there c.as_slice-arrays.result.now c.as_slice-arrays.ensures array c.index-arrays-number.is in
    let named : name_at names number ≡ Some name = sym (rw c.in-Some.is at c.array.ensures) in
    let own : array_word net names number ≡ record { name = name; width = array.width; depth = Some array.words } = rw (named, wide, words) refl in
    c.in_ok-put_array_word.ensures ∙ ap (λ (ws : List StateWord). ws ++ record { name = name; width = array.width; depth = Some array.words } ∷ []) c.loop-number.invariant
    ∙ append_assoc c.args.words.now.items (map (array_word net names) old) (record { name = name; width = array.width; depth = Some array.words } ∷ [])
    ∙ ap (λ (w : StateWord). c.args.words.now.items ++ (map (array_word net names) old ++ w ∷ [])) (sym own)
    ∙ ap (λ (ws : List StateWord). c.args.words.now.items ++ ws) (sym (ap (map (array_word net names)) next ∙ map_push (array_word net names) old number))
