use Rattle.std.proofs.Common.{List, ap, subst, ◌∙◌}
use Rattle.std.specs.Prelude.{flat_map, filter, not}
use Rattle.fir_base.specs.Lists.{In}
use Rattle.ver_ast.specs.declared.tree.Item.{Item}
use Rattle.fir_base.specs.Words.{is_among}
use Rattle.ver_ast.specs.Nets.{SizedNet, reg_net, reset_targets}
use Rattle.ver_sim.specs.working.ShownWords.{IsShownOf}
use Rattle.ver_sim.proofs.PairLists.{in_at, loop_more, loop_done, chosen_parts}
use Rattle.ver_sim.proofs.shown.put_shown_words.Goals as goal

pub loop-item-preserved : goal.loop-item-preserved
loop-item-preserved c =
    let v = c.args.v.now in
    let items = c.as_slice-item-items.result.now in
    let item = c.item-item.result in
    let known = subst (λ (xs : List Item). In xs item) c.as_slice-item-items.ensures (in_at items c.loop-item.item-index item c.loop-item-test.true c.item-item.is) in
    loop_more (IsShownOf v) (λ (i : Item). filter (λ r. not (is_among (reset_targets v) r.0)) (reg_net i)) items c.loop-item.item-index item _ _ _ c.loop-item-test.true c.item-item.is c.loop-item.invariant
    (c.in_ok-put_shown_word.ensures v c.requires known)

pub returns : goal.returns
returns c =
    let v = c.args.v.now in
    let items = c.as_slice-item-items.result.now in
    loop_done (IsShownOf v) (λ (i : Item). filter (λ r. not (is_among (reset_targets v) r.0)) (reg_net i)) items c.loop-item.item-index _ _ _ c.loop-item-test.false
    (ap (flat_map (λ (i : Item). filter (λ r. not (is_among (reset_targets v) r.0)) (reg_net i))) c.as_slice-item-items.ensures ∙ chosen_parts (λ (r : SizedNet). not (is_among (reset_targets v) r.0)) reg_net v.items) c.loop-item.invariant
