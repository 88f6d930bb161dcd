use Rattle.std.proofs.Common.{◌≡◌, ◌-◌}
use Rattle.fir_bits.specs.Literals.{first_holding, least_width}
use Rattle.fir_bits.proofs.literals.least_width.Given as goal

abbrev pub invariant-loop-width : goal.invariant-loop-width
invariant-loop-width l = least_width l.signed l.negative l.magnitude ≡ first_holding l.signed l.negative l.magnitude (129 - l.width) l.width
