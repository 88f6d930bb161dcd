use Rattle.std.proofs.Common.{arith}
use Rattle.fir_bits.proofs.LiteralWidths.{holds_number-wide}
use Rattle.fir_bits.proofs.literals.holds_number.Goals as goal

pub returns-then-width-gt128 : goal.returns-then-width-gt128
returns-then-width-gt128 c =
    holds_number-wide c.args.signed c.args.width c.args.negative c.args.magnitude (omega arith) (omega arith)
