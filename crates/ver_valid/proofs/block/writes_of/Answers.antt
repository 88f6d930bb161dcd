use Rattle.std.proofs.Common.{arith}
use Rattle.std.specs.List.{AllByRecursion}
use Rattle.ver_ast.specs.Valid.{IsWrite}
use Rattle.ver_valid.proofs.Judging.{judged_err, denied_more}
use Rattle.ver_valid.proofs.Runs.{one_holds, rest_holds, all_hold}
use Rattle.ver_valid.proofs.block.writes_of.Goals as goal

pub returns-in_err-write_of : goal.returns-in_err-write_of
returns-in_err-write_of c =
    λ v t. judged_err c.from_residual.result _ (AllByRecursion (IsWrite v c.args.array.now) c.args.writes.now) c.from_residual.ensures.1
    (denied_more _ (IsWrite v c.args.array.now c.write-item.result) (AllByRecursion (IsWrite v c.args.array.now) c.args.writes.now)
    (one_holds (IsWrite v c.args.array.now) (AllByRecursion (IsWrite v c.args.array.now) c.args.writes.now) c.args.writes.now c.loop-write.write-index
    (c.loop-write.invariant v t) c.write-item.result c.loop-write-test.true c.write-item.is) (c.in_err-write_of.ensures v t))

pub loop-write-preserved : goal.loop-write-preserved
loop-write-preserved c =
    λ v t. rest_holds (IsWrite v c.args.array.now) (AllByRecursion (IsWrite v c.args.array.now) c.args.writes.now) c.args.writes.now c.loop-write.write-index
    (c.loop-write.invariant v t) c.write-item.result c.loop-write-test.true c.write-item.is (c.in_ok-write_of.ensures v t)

pub returns : goal.returns
returns c =
    λ v t. all_hold (IsWrite v c.args.array.now) (AllByRecursion (IsWrite v c.args.array.now) c.args.writes.now) c.args.writes.now c.loop-write.write-index
    (c.loop-write.invariant v t) (omega arith)
