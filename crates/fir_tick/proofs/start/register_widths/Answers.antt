use Rattle.std.proofs.Common.{◌≡◌, ◌≤◌, ℕ, List, [], ◌∷◌, ◌++◌, map, take, sym, ap, ◌∙◌, subst}
use Rattle.std.specs.List.{AllByRecursion}
use Rattle.std.proofs.lemmas.List.{map_push}
use Rattle.fir_base.proofs.Each.{all_joined}
use Rattle.fir_base.proofs.Elements.{all_there}
use Rattle.fir_net.specs.declared.leaf.Leaf.{Leaf}
use Rattle.fir_net.specs.working.IsNet.{IsLeaf}
use Rattle.fir_net.specs.working.Values.{leaf_width}
use Rattle.fir_net.proofs.WholeValues.{width_at}
use Rattle.fir_tick.proofs.WordLeaves.{word_next, word_leaf}
use Rattle.fir_tick.proofs.start.register_widths.Goals as goal

pub loop-word-preserved : goal.loop-word-preserved
loop-word-preserved c =
    let net = c.args.net.now in
    let i = c.loop-word.word-index in
    let word = c.word-item.result in
    let number = c.number-number.result in
    let leaf = c.index-leaves-number.result in
    let next = word_next net c.requires c.as_slice-leaves.result.now c.as_slice-leaves.ensures c.as_slice-state.result.now c.as_slice-state.ensures i word c.loop-word-test.true c.word-item.is in
    let there = word_leaf net c.requires c.as_slice-leaves.result.now c.as_slice-leaves.ensures c.as_slice-state.result.now c.as_slice-state.ensures i word c.loop-word-test.true c.word-item.is number c.number-number.ensures leaf c.index-leaves-number.is in
    let wide : leaf_width net.leaves word ≡ leaf.width = ap (leaf_width net.leaves) (sym c.number-number.ensures) ∙ width_at net.leaves number leaf there in
    let narrow : leaf.width ≤ 128 = (all_there (IsLeaf net.leaves net.nodes) net.leaves c.requires.leaves number leaf there).narrow in
    let given = c.in_ok-push.ensures.items ∙ ap (λ (l : Leaf). c.loop-word.widths.items ++ l.width ∷ []) (sym c.index-leaves-number.is) in
    record {
      widths =
          given ∙ ap (λ (ws : List ℕ). ws ++ leaf.width ∷ []) c.loop-word.invariant.widths
          ∙ ap (λ (w : ℕ). map (leaf_width net.leaves) (take i net.state) ++ w ∷ []) (sym wide)
          ∙ sym (ap (map (leaf_width net.leaves)) next ∙ map_push (leaf_width net.leaves) (take i net.state) word);
      narrow = subst (AllByRecursion (λ w. w ≤ 128)) (sym given) (all_joined (λ w. w ≤ 128) c.loop-word.widths.items (leaf.width ∷ []) c.loop-word.invariant.narrow (narrow, tt));
    }
