use Rattle.std.proofs.Common.{◌∙◌, sym}
use Rattle.ver_check.proofs.Widths.{none_fits}
use Rattle.ver_check.proofs.operand.is_fit.Goals as goal

pub returns-in-None : goal.returns-in-None
returns-in-None c = none_fits c.args.constant.number c.args.constant.width c.in-None.is (sym c.is_narrow.ensures ∙ c.if-not-is_narrow.false)
