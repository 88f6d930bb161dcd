use Rattle.ver_ast.specs.Valid.{Valid}
use Rattle.ver_valid.specs.working.Walks.{IsWalked}
use Rattle.ver_valid.proofs.Judging.{judged_err, denied_more}
use Rattle.ver_valid.proofs.FromWalk.{valid_from}
use Rattle.ver_valid.proofs.ToWalk.{walked_from}
use Rattle.ver_valid.proofs.Ready.{ready, targets_distinct, reads_known}
use Rattle.ver_valid.proofs.judge.judge.Goals as goal

pub returns-in_err-all_but_order : goal.returns-in_err-all_but_order
returns-in_err-all_but_order c =
    judged_err c.from_residual.result _ (Valid c.args.v.now) c.from_residual.ensures.1
    (denied_more _ (IsWalked c.args.v.now) (Valid c.args.v.now) (walked_from c.args.v.now) c.in_err-all_but_order.ensures)

pub has_order-requires-clause-distinct : goal.has_order-requires-clause-distinct
has_order-requires-clause-distinct c = targets_distinct c.args.v.now (ready c.args.v.now c.in_ok-all_but_order.ensures)

pub has_order-requires-clause-known : goal.has_order-requires-clause-known
has_order-requires-clause-known c = reads_known c.args.v.now (ready c.args.v.now c.in_ok-all_but_order.ensures)

pub returns-then-branch : goal.returns-then-branch
returns-then-branch c = valid_from c.args.v.now c.in_ok-all_but_order.ensures (c.in_ok-has_order.ensures.0 c.if-branch.true)
