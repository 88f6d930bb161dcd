use Rattle.std.proofs.Common.{drop, length, slice_index_or, subst, sym}
use Rattle.std.proofs.lemmas.Option.{slice_get-get_or}
use Rattle.fir_infer_resets.specs.working.DirectWalks.{IsDirect}
use Rattle.fir_infer_resets.proofs.DroppedDetours.{all_kept, below_left, direct_none, direct_with, none_kept, one_kept}
use Rattle.fir_infer_resets.proofs.direct.without_detours.Goals as goal

pub loop-number-init : goal.loop-number-init
loop-number-init c =
    let ends = c.args.ends.now in
    let kept = c.new-kept.result.items in
    record { replaces = none_kept ends c.args.walk.now kept c.new-kept.ensures.items; direct = direct_none ends kept c.new-kept.ensures.items }

pub drop_detours-requires-clause-kept : goal.drop_detours-requires-clause-kept
drop_detours-requires-clause-kept c =
    below_left (length c.args.ends.now) c.loop-number.kept.items (drop c.loop-number.number-index c.args.walk.now) (c.loop-number.invariant.replaces.within c.requires)

pub drop_detours-requires-clause-next : goal.drop_detours-requires-clause-next
drop_detours-requires-clause-next c =
    let walk = c.args.walk.now in
    let i = c.loop-number.number-index in
    c.requires i (slice_index_or walk i 0) (slice_get-get_or walk i 0 c.loop-number-test.true)

pub loop-number-preserved : goal.loop-number-preserved
loop-number-preserved c =
    let ends = c.args.ends.now in
    let walk = c.args.walk.now in
    let i = c.loop-number.number-index in
    let x = slice_index_or walk i 0 in
    let shorter = c.drop_detours.new.kept.items in
    let pushed = c.in_ok-push.ensures.items in
    let dropped = c.drop_detours.ensures in
    record {
      replaces =
          one_kept ends walk c.loop-number.kept.items shorter c.push.new.self.items i x (slice_get-get_or walk i 0 c.loop-number-test.true) c.loop-number.invariant.replaces
          dropped.replaces pushed;
      direct = subst (IsDirect ends) (sym pushed) (direct_with ends shorter x (dropped.replaces.direct c.loop-number.invariant.direct) dropped.direct);
    }

pub returns-clause-replaces : goal.returns-clause-replaces
returns-clause-replaces c =
    all_kept c.args.ends.now c.args.walk.now c.loop-number.kept.items c.loop-number.number-index c.loop-number-test.false c.loop-number.invariant.replaces
