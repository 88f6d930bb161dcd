use Rattle.std.proofs.Common.{◌≡◌, ◌+◌, ◌-◌, true, false, arith, ◌∙◌}
use Rattle.fir_bits.specs.Literals.{holds_number}
use Rattle.fir_bits.proofs.LiteralWidths.{first_holding-found, first_holding-next}
use Rattle.fir_bits.proofs.literals.least_width.Goals as goal

pub returns-then-holds_number : goal.returns-then-holds_number
returns-then-holds_number c =
    let w = c.loop-width.width in
    let holds : holds_number c.args.signed w c.args.negative c.args.magnitude ≡ true = rw (← c.from.ensures) (cc) in
    let found = first_holding-found c.args.signed c.args.negative c.args.magnitude (129 - w) w (omega arith) holds in
    cc

pub loop-width-preserved : goal.loop-width-preserved
loop-width-preserved c =
    let w = c.loop-width.width in
    let fails : holds_number c.args.signed w c.args.negative c.args.magnitude ≡ false = rw (← c.from.ensures) (cc) in
    c.loop-width.invariant ∙ first_holding-next c.args.signed c.args.negative c.args.magnitude (129 - w) (129 - (w + 1)) w (omega arith) fails
