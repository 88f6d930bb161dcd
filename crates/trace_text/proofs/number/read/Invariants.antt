use Rattle.std.proofs.Common.{◌≡◌, ℕ, drop}
use Rattle.std.specs.List.{list_all}
use Rattle.trace_text.specs.Spelling.{number_from}
use Rattle.trace_text.specs.working.Numbers.{is_digit_in, IsHeld}
use Rattle.trace_text.proofs.number.read.Given as goal

-- the digits that are left, behind the number of those before, give the number of all
abbrev pub invariant-loop-byte : goal.invariant-loop-byte
invariant-loop-byte l = record {
  held : (n : ℕ) × IsHeld l.number n × (number_from l.base n (drop l.byte-index l.word) ≡ number_from l.base 0 l.word);
  digits : list_all (is_digit_in l.base) (drop l.byte-index l.word) ≡ list_all (is_digit_in l.base) l.word;
}
