use Rattle.std.proofs.Common.{Bool, ap, subst}
use Rattle.std.specs.Prelude.{Some}
use Rattle.ver_check.specs.OperandFaults.{own_faults}
use Rattle.ver_check.specs.working.Findings.{IsFirst}
use Rattle.ver_check.proofs.block.fitting.Goals as goal

pub returns : goal.returns
returns c =
    λ few.
    c.refuse.ensures _
    (subst (λ (b : Bool). IsFirst c.own.result (own_faults (Some c.args.width) (Some c.args.constant.width) b c.args.place)) c.is_fit.ensures
    (c.own.ensures (Some c.args.constant.width) (ap Some c.min.ensures) few))
