use Rattle.std.proofs.Common.{◌≡◌, ◌≤◌, ℕ, List, [], ◌∷◌, ◌++◌, get_or, map, take, replicate, sym, ap, ◌∙◌, subst, append_assoc, append-nil}
use Rattle.std.specs.Prelude.{flat_map}
use Rattle.std.specs.List.{AllByRecursion}
use Rattle.std.proofs.lemmas.List.{take_all}
use Rattle.std.proofs.lemmas.List.Concat.{flat_map-append}
use Rattle.fir_base.proofs.Each.{all_joined}
use Rattle.fir_net.specs.working.Arrays.{widths_of, words_of}
use Rattle.fir_net.specs.working.Values.{leaf_width}
use Rattle.fir_tick.proofs.OrderArrays.{array_next, array_within, array_width, array_words, array_whole}
use Rattle.fir_tick.proofs.Lists.{all_same}
use Rattle.fir_tick.proofs.start.state_widths.Goals as goal

pub loop-number-preserved : goal.loop-number-preserved
loop-number-preserved c =
    let net = c.args.net.now in
    let order = c.as_slice-order.result.now in
    let arrays = c.as_slice-arrays.result.now in
    let i = c.loop-number.number-index in
    let number = get_or order i 0 in
    let array = c.index-arrays-number.result in
    let old = take i net.array_order in
    let registers = map (leaf_width net.leaves) net.state in
    let there = array_within net c.requires order c.as_slice-order.ensures i c.loop-number-test.true in
    let next = array_next net c.requires order c.as_slice-order.ensures i c.loop-number-test.true in
    let wide = array_width net number there arrays c.as_slice-arrays.ensures array c.index-arrays-number.is in
    let words = array_words net number there arrays c.as_slice-arrays.ensures array c.index-arrays-number.is in
    let narrow = (array_whole net number there arrays c.as_slice-arrays.ensures c.requires array c.index-arrays-number.is).narrow in
    let own : replicate array.words array.width ≡ widths_of net number = ap (λ (n : ℕ). replicate n array.width) (sym words) ∙ ap (replicate (words_of net.arrays number)) (sym wide) in
    let all = ap (flat_map (widths_of net)) next ∙ flat_map-append (widths_of net) old (number ∷ []) ∙ ap (λ (ws : List ℕ). flat_map (widths_of net) old ++ ws) (append-nil (widths_of net number)) in
    let given = c.in_ok-put_widths.ensures in
    record {
      widths =
          given ∙ ap (λ (ws : List ℕ). ws ++ replicate array.words array.width) c.loop-number.invariant.widths
          ∙ append_assoc registers (flat_map (widths_of net) old) (replicate array.words array.width)
          ∙ ap (λ (ws : List ℕ). registers ++ (flat_map (widths_of net) old ++ ws)) own ∙ ap (λ (ws : List ℕ). registers ++ ws) (sym all);
      narrow =
          subst (AllByRecursion (λ w. w ≤ 128)) (sym given)
          (all_joined (λ w. w ≤ 128) c.loop-number.widths.items (replicate array.words array.width) c.loop-number.invariant.narrow (all_same (λ w. w ≤ 128) array.words array.width narrow));
    }

pub returns-clause-widths : goal.returns-clause-widths
returns-clause-widths c =
    let net = c.args.net.now in
    let all = take_all c.loop-number.number-index c.as_slice-order.result.now c.loop-number-test.false in
    let order = ap (take c.loop-number.number-index) (sym c.as_slice-order.ensures) ∙ all ∙ c.as_slice-order.ensures in
    c.loop-number.invariant.widths ∙ ap (λ (ks : List ℕ). map (leaf_width net.leaves) net.state ++ flat_map (widths_of net) ks) order
