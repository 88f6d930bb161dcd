use Rattle.std.proofs.Common.{◌≡◌, Some, refl}
use Rattle.fir_bits.specs.declared.operators.PrimOp.{PrimOp}
use Rattle.fir_bits.specs.declared.operators.PrimOp.TheVariants.{Add}
use Rattle.fir_bits.specs.OperatorWords.{operator_word}
use Rattle.fir_bits.specs.working.OperatorWords.{operator_of}
use Rattle.fir_bits.proofs.laws.words_are_read.Goals as goal

read : (op : PrimOp) → operator_of (operator_word op) ≡ Some op
read Add = refl
read _ = refl

pub returns : goal.returns
returns c = read
