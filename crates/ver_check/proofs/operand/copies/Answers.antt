use Rattle.std.proofs.Common.{◌≡◌, ◌*◌, min, ap, ◌∙◌}
use Rattle.std.specs.Prelude.{Some}
use Rattle.ver_check.proofs.Widths.{copies_capped}
use Rattle.ver_check.proofs.operand.copies.Goals as goal

pub returns-in-Some : goal.returns-in-Some
returns-in-Some c =
    λ all e. ap Some (result_is c) ∙ copies_capped c.args.count c.in-Some.width c.args.bits all c.in-Some.is e
  where
    result_is : (c : goal.After-min) → c.min.result ≡ min (c.args.count * c.in-Some.width) 129
    result_is c = cc
