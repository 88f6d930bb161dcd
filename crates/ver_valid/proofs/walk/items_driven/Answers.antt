use Rattle.std.proofs.Common.{arith}
use Rattle.std.specs.List.{AllByRecursion}
use Rattle.ver_valid.specs.working.Walks.{IsItemDriven}
use Rattle.ver_valid.proofs.Judging.{judged_err, denied_more}
use Rattle.ver_valid.proofs.Runs.{one_holds, rest_holds, all_hold}
use Rattle.ver_valid.proofs.walk.items_driven.Goals as goal

pub returns-in_err-item_driven : goal.returns-in_err-item_driven
returns-in_err-item_driven c =
    λ ns d. judged_err c.from_residual.result _ (AllByRecursion (IsItemDriven ns) c.args.items.now) c.from_residual.ensures.1
    (denied_more _ (IsItemDriven ns c.item-item.result) (AllByRecursion (IsItemDriven ns) c.args.items.now)
    (one_holds (IsItemDriven ns) (AllByRecursion (IsItemDriven ns) c.args.items.now) c.args.items.now c.loop-item.item-index (c.loop-item.invariant ns d)
    c.item-item.result c.loop-item-test.true c.item-item.is) (c.in_err-item_driven.ensures ns d))

pub loop-item-preserved : goal.loop-item-preserved
loop-item-preserved c =
    λ ns d. rest_holds (IsItemDriven ns) (AllByRecursion (IsItemDriven ns) c.args.items.now) c.args.items.now c.loop-item.item-index (c.loop-item.invariant ns d)
    c.item-item.result c.loop-item-test.true c.item-item.is (c.in_ok-item_driven.ensures ns d)

pub returns : goal.returns
returns c =
    λ ns d. all_hold (IsItemDriven ns) (AllByRecursion (IsItemDriven ns) c.args.items.now) c.args.items.now c.loop-item.item-index (c.loop-item.invariant ns d) (omega arith)
