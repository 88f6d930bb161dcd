use Rattle.ver_ast.specs.Valid.{IsResetting}
use Rattle.ver_valid.proofs.Judging.{judged_err}
use Rattle.ver_valid.proofs.BlockForms.{wide_reset, fitting_reset}
use Rattle.ver_valid.proofs.block.resetting_block.Goals as goal

pub returns-in_err-same_width : goal.returns-in_err-same_width
returns-in_err-same_width c =
    λ v t. judged_err c.from_residual-in_err-same_width.result _ (IsResetting v c.args.block.now) c.from_residual-in_err-same_width.ensures.1
    (wide_reset v c.args.block.now c.in_ok-net.field-0 _ (c.in_ok-net.ensures v t).1 c.in_err-same_width.ensures)

pub returns-then-not-is_constant_sound : goal.returns-then-not-is_constant_sound
returns-then-not-is_constant_sound c =
    λ v t r. let sound = c.is_constant_sound.ensures.1 (fitting_reset v c.args.scope.now t c.args.block.now r) in let not_sound = c.if-not-is_constant_sound.true in cc
