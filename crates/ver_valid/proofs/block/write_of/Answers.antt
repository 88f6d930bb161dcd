use Rattle.ver_ast.specs.Valid.{IsWrite}
use Rattle.ver_valid.proofs.Judging.{judged_err}
use Rattle.ver_valid.proofs.BlockForms.{write_form, no_write}
use Rattle.ver_valid.proofs.block.write_of.Goals as goal

pub returns-in_err-width : goal.returns-in_err-width
returns-in_err-width c =
    λ v t. judged_err c.from_residual-in_err-width.result _ (IsWrite v c.args.array.now c.args.write.now) c.from_residual-in_err-width.ensures.1
    (no_write v c.args.array.now c.args.write.now _ (c.in_err-width.ensures v t))

pub returns : goal.returns
returns c =
    λ v t. write_form v c.args.array.now c.args.write.now c.in_ok-width.width c.in_ok-operand.field-0 c.has_width-2.result c.in_ok-same_name.ensures
    (c.in_ok-width.ensures v t) (c.in_ok-has_width.ensures v t) (c.in_ok-operand.ensures v t).0 (c.has_width-2.ensures v t)
