use Rattle.std.proofs.Common.{◌≡◌, false}
use Rattle.fir_lex.specs.working.Front.{information_length}
use Rattle.fir_lex.proofs.Lengths.{information_at}
use Rattle.fir_lex.proofs.information.information_length.Given as goal

abbrev pub invariant-loop-i : goal.invariant-loop-i
invariant-loop-i l = information_at l.backslash l.bytes l.i ≡ information_length false l.bytes
