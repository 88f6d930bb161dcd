use Rattle.std.proofs.Common.{ℕ, ◌+◌, List, drop, get_or, length, set, sym, ap, ◌∙◌, arith, rules, length-set}
use Rattle.std.specs.List.{sum_by}
use Rattle.std.proofs.lemmas.List.{drop_all, length-replicate}
use Rattle.std.proofs.lemmas.List.Sums.{sum_by-cons}
use Rattle.fir_net.specs.declared.array.Array.{Array}
use Rattle.fir_net.specs.working.Arrays.{words_of}
use Rattle.fir_tick.specs.working.ArraySpans.{no_span}
use Rattle.fir_tick.proofs.ArraysFound.{found_from, all_found}
use Rattle.fir_tick.proofs.OrderArrays.{array_ahead, array_within, array_words}
use Rattle.fir_tick.proofs.spans.find_spans.Goals as goal

pub loop-number-init : goal.loop-number-init
loop-number-init c = record {
  room = ap length c.requires.empty ∙ length-replicate (length c.args.net.now.arrays) no_span;
  few = let few = c.requires.whole.few_words in let begin = ap length c.as_slice-begin.ensures in search rules;
  rest = let begin = ap length c.as_slice-begin.ensures in ap (λ (b : ℕ). found_from c.args.net.now.arrays b c.args.net.now.array_order c.args.spans.now) begin;
}

pub overflow_add-begin : goal.overflow_add-begin
overflow_add-begin c =
    let net = c.args.net.now in
    let order = c.as_slice-order.result.now in
    let i = c.loop-number.number-index in
    let number = get_or order i 0 in
    let there = array_within net c.requires.whole order c.as_slice-order.ensures i c.loop-number-test.true in
    let array = c.index-arrays-number.result in
    let words = array_words net number there c.as_slice-arrays.result.now c.as_slice-arrays.ensures array c.index-arrays-number.is ∙ ap (λ (a : Array). a.words) c.index-arrays-number.is in
    let sum = sum_by-cons (words_of net.arrays) number (drop (i + 1) net.array_order) in
    let ahead = ap (sum_by (words_of net.arrays)) (array_ahead net c.requires.whole order c.as_slice-order.ensures i c.loop-number-test.true) in
    let few = c.loop-number.invariant.few in
    search rules

pub loop-number-preserved : goal.loop-number-preserved
loop-number-preserved c =
    let net = c.args.net.now in
    let order = c.as_slice-order.result.now in
    let i = c.loop-number.number-index in
    let number = get_or order i 0 in
    let begin = c.loop-number.begin in
    let spans = c.loop-number.spans in
    let array = c.index-arrays-number.result in
    let there = array_within net c.requires.whole order c.as_slice-order.ensures i c.loop-number-test.true in
    let words = array_words net number there c.as_slice-arrays.result.now c.as_slice-arrays.ensures array c.index-arrays-number.is ∙ ap (λ (a : Array). a.words) c.index-arrays-number.is in
    let sum = sum_by-cons (words_of net.arrays) number (drop (i + 1) net.array_order) in
    let next = array_ahead net c.requires.whole order c.as_slice-order.ensures i c.loop-number-test.true in
    let ahead = ap (sum_by (words_of net.arrays)) next in
    let few = c.loop-number.invariant.few in
    let rest = ap (λ (ks : List ℕ). found_from net.arrays begin ks spans) (sym next) ∙ c.loop-number.invariant.rest in
    record {
      room = length-set spans number (record { begin = begin; words = (get_or c.as_slice-arrays.result.now number array).words }) ∙ c.loop-number.invariant.room;
      few = omega arith;
      rest = ap (λ (n : ℕ). found_from net.arrays (begin + n) (drop (i + 1) net.array_order) (set spans number (record { begin = begin; words = n }))) (sym words) ∙ rest;
    }

pub returns : goal.returns
returns c =
    let net = c.args.net.now in
    let none = ap (λ (ks : List ℕ). drop c.loop-number.number-index ks) (sym c.as_slice-order.ensures) ∙ drop_all c.loop-number.number-index c.as_slice-order.result.now c.loop-number-test.false in
    all_found net c.requires.whole c.loop-number.spans
    (ap (λ (ks : List ℕ). found_from net.arrays c.loop-number.begin ks c.loop-number.spans) (sym none) ∙ c.loop-number.invariant.rest
    ∙ ap (found_from net.arrays (length net.state) net.array_order) c.requires.empty)
