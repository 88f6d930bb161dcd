use Rattle.std.proofs.Common.{sym, ◌∙◌}
use Rattle.ver_check.specs.Scopes.{declaration_of}
use Rattle.ver_check.proofs.InputAssigns.{input_found}
use Rattle.ver_check.proofs.walk.judge_assign.Goals as goal

pub returns-in-Input : goal.returns-in-Input
returns-in-Input c before knows drives =
    let target = c.args.assign.now.target in
    input_found before c.args.assign.now c.args.places.now c.in-Input.width c.input_assign.result (declaration_of before.scope target) c.in-Some.entry
    (sym (knows.by_name target) ∙ sym c.find.ensures ∙ c.in-Some.is) c.in-Input.is (rw c.place_at-place.ensures at c.input_assign.ensures)
