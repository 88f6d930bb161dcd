use Rattle.std.proofs.Common.{◌≡◌, length, true}
use Rattle.std.specs.List.{list_all}
use Rattle.fir_base.specs.Bytes.{is_digit}
use Rattle.trace_text.specs.Spelling.{decimal_of}
use Rattle.trace_text.proofs.number.without_zeros.Given as goal

abbrev pub invariant-loop-digits : goal.invariant-loop-digits
invariant-loop-digits l = record {
  number : decimal_of l.digits ≡ decimal_of l.initial.digits;
  digits : list_all is_digit l.digits ≡ true;
}

abbrev pub decreases-loop-digits : goal.decreases-loop-digits
decreases-loop-digits l = length l.digits
