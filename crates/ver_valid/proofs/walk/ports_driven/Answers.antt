use Rattle.std.proofs.Common.{arith}
use Rattle.std.specs.List.{AllByRecursion}
use Rattle.ver_valid.specs.working.Walks.{IsPortDriven}
use Rattle.ver_valid.proofs.Judging.{judged_err, denied_more}
use Rattle.ver_valid.proofs.Runs.{one_holds, rest_holds, all_hold}
use Rattle.ver_valid.proofs.walk.ports_driven.Goals as goal

pub returns-in_err-output_driven : goal.returns-in_err-output_driven
returns-in_err-output_driven c =
    λ ns d. judged_err c.from_residual.result _ (AllByRecursion (IsPortDriven ns) c.args.ports.now) c.from_residual.ensures.1
    (denied_more _ (IsPortDriven ns c.port-item.result) (AllByRecursion (IsPortDriven ns) c.args.ports.now)
    (one_holds (IsPortDriven ns) (AllByRecursion (IsPortDriven ns) c.args.ports.now) c.args.ports.now c.loop-port.port-index (c.loop-port.invariant ns d)
    c.port-item.result c.loop-port-test.true c.port-item.is) (c.in_err-output_driven.ensures ns d))

pub loop-port-preserved : goal.loop-port-preserved
loop-port-preserved c =
    λ ns d. rest_holds (IsPortDriven ns) (AllByRecursion (IsPortDriven ns) c.args.ports.now) c.args.ports.now c.loop-port.port-index (c.loop-port.invariant ns d)
    c.port-item.result c.loop-port-test.true c.port-item.is (c.in_ok-output_driven.ensures ns d)

pub returns : goal.returns
returns c =
    λ ns d. all_hold (IsPortDriven ns) (AllByRecursion (IsPortDriven ns) c.args.ports.now) c.args.ports.now c.loop-port.port-index (c.loop-port.invariant ns d) (omega arith)
