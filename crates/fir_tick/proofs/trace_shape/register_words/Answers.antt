use Rattle.std.proofs.Common.{◌≡◌, ◌+◌, Some, None, take, sym}
use Rattle.std.specs.Prelude.{slice_get}
use Rattle.fir_base.proofs.Elements.{get_in}
use Rattle.fir_net_names.specs.working.LeafNamed.{name_at}
use Rattle.fir_tick.proofs.ShapeNames.{word_named}
use Rattle.fir_tick.proofs.ShapeWords.{words_more}
use Rattle.fir_tick.proofs.WordLeaves.{word_stands, word_next, word_leaf}
use Rattle.fir_tick.proofs.trace_shape.register_words.Goals as goal

pub unreachable-requires : goal.unreachable-requires
unreachable-requires c =
    let net = c.args.net.now in
    let table = c.args.table.now in
    let word = c.word-item.result in
    let i = c.loop-word.word-index in
    let stands = word_stands net c.requires.whole c.as_slice-leaves.result.now c.as_slice-leaves.ensures c.as_slice-state.result.now c.as_slice-state.ensures i word c.loop-word-test.true c.word-item.is in
    let has = word_named net table c.requires.named word (get_in net.state i word stands) in
    let none : None ≡ name_at table.leaves word = rw c.in_default.is at c.leaf.ensures in
    let name = has.1 in
    cc

pub loop-word-preserved : goal.loop-word-preserved
loop-word-preserved c =
    let net = c.args.net.now in
    let table = c.args.table.now in
    let i = c.loop-word.word-index in
    let word = c.word-item.result in
    let leaf = c.index-leaves-number.result in
    let next = word_next net c.requires.whole c.as_slice-leaves.result.now c.as_slice-leaves.ensures c.as_slice-state.result.now c.as_slice-state.ensures i word c.loop-word-test.true c.word-item.is in
    let there = word_leaf net c.requires.whole c.as_slice-leaves.result.now c.as_slice-leaves.ensures c.as_slice-state.result.now c.as_slice-state.ensures i word c.loop-word-test.true c.word-item.is c.number-number.result c.number-number.ensures leaf c.index-leaves-number.is in
    let at : slice_get net.leaves word ≡ Some leaf = rw c.number-number.ensures at there in
    let named : name_at table.leaves word ≡ Some c.in-Some.name.now = sym (rw c.in-Some.is at c.leaf.ensures) in
    words_more net table.leaves (take i net.state) (take (i + 1) net.state) word leaf c.in-Some.name.now c.loop-word.words.items c.put_state_word.new.words.items next at named c.in_ok-put_state_word.ensures c.loop-word.invariant
