use Rattle.ver_ast.specs.declared.tree.Rhs.TheVariants as rhs
use Rattle.ver_ast.specs.Nets.{arrays, nets}
use Rattle.ver_ast.specs.SoundSides.{IsSoundSide}
use Rattle.ver_valid.proofs.Judging.{judged_err}
use Rattle.ver_valid.proofs.BlockForms.{no_word, other_word}
use Rattle.ver_valid.proofs.side.word_side.Goals as goal

pub returns-in_err-array : goal.returns-in_err-array
returns-in_err-array c =
    λ v t. judged_err c.from_residual.result _ (IsSoundSide (nets v) (arrays v) c.args.width (rhs.Word c.args.array.now c.args.index.now))
    c.from_residual.ensures.1 (no_word v c.args.array.now c.args.index.now c.args.width _ (c.in_err-array.ensures v t))

pub returns-in_err-same_width : goal.returns-in_err-same_width
returns-in_err-same_width c =
    λ v t. judged_err c.from_residual-in_err-same_width.result _
    (IsSoundSide (nets v) (arrays v) c.args.width (rhs.Word c.args.array.now c.args.index.now)) c.from_residual-in_err-same_width.ensures.1
    (other_word v c.args.array.now c.args.index.now c.args.width c.in_ok-array.field-0 _ (c.in_ok-array.ensures v t).1 c.in_err-same_width.ensures)
