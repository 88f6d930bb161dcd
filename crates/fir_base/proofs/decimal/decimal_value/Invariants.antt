use Rattle.std.proofs.Common.{◌≡◌, ◌^◌, ◌<◌, drop}
use Rattle.fir_base.specs.Digits.{decimal_value}
use Rattle.fir_base.proofs.Decimals.{decimal_from}
use Rattle.fir_base.proofs.decimal.decimal_value.Given as goal

abbrev pub invariant-loop-digit : goal.invariant-loop-digit
invariant-loop-digit l = (l.number < 2 ^ 128) × (decimal_value l.digits ≡ decimal_from l.number (drop l.digit-index l.digits))
