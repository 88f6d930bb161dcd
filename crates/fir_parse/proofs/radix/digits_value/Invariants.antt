use Rattle.std.proofs.Common.{◌≡◌, true, Some, drop}
use Rattle.fir_parse.specs.Numbers.{digits_from, digits_value, is_in_range}
use Rattle.fir_parse.proofs.radix.digits_value.Given as goal

abbrev pub invariant-loop-digit : goal.invariant-loop-digit
invariant-loop-digit l = (is_in_range l.number ≡ true) × (digits_value l.radix l.digits ≡ digits_from l.radix (Some l.number) (drop l.digit-index l.digits))
