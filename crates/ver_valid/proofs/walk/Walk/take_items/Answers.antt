use Rattle.std.proofs.Common.{arith}
use Rattle.std.proofs.Common.{take}
use Rattle.ver_valid.specs.working.Walks.{AreNextItems, IsNextItem, Reflects, with_items}
use Rattle.ver_valid.proofs.Judging.{denied_more}
use Rattle.ver_valid.proofs.Steps.{steps_err, amid_first_item, item_next, item_more, items_done}
use Rattle.ver_valid.proofs.walk.Walk.take_items.Goals as goal

pub loop-item-init : goal.loop-item-init
loop-item-init c = λ v r. amid_first_item c.args.self.now v c.args.items.now r

pub returns-in_err-take_item : goal.returns-in_err-take_item
returns-in_err-take_item c =
    λ v r.
    let amid = c.loop-item.invariant v r in
    let before = with_items v (take c.loop-item.item-index c.args.items.now) in
    steps_err c.from_residual.result _ (AreNextItems v c.args.items.now) (Reflects c.take_item.new.self (with_items v c.args.items.now)) c.from_residual.ensures.1
    (denied_more _ (IsNextItem before c.item-item.result) (AreNextItems v c.args.items.now)
    (item_next c.loop-item.self c.take_item.new.self v c.args.items.now c.loop-item.item-index amid c.item-item.result c.loop-item-test.true c.item-item.is)
    (c.in_err-take_item.ensures before amid.known))

pub loop-item-preserved : goal.loop-item-preserved
loop-item-preserved c =
    λ v r.
    let amid = c.loop-item.invariant v r in
    let before = with_items v (take c.loop-item.item-index c.args.items.now) in
    let next = c.in_ok-take_item.ensures before amid.known in
    item_more c.loop-item.self c.take_item.new.self v c.args.items.now c.loop-item.item-index amid c.item-item.result c.loop-item-test.true c.item-item.is
    next.0 next.1

pub returns : goal.returns
returns c =
    λ v r. items_done c.loop-item.self c.loop-item.self v c.args.items.now c.loop-item.item-index (c.loop-item.invariant v r) (omega arith)
