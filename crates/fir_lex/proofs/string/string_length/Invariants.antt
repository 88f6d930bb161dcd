use Rattle.std.proofs.Common.{◌≡◌, false}
use Rattle.fir_lex.specs.working.Front.{string_length}
use Rattle.fir_lex.proofs.Lengths.{string_at}
use Rattle.fir_lex.proofs.string.string_length.Given as goal

abbrev pub invariant-loop-i : goal.invariant-loop-i
invariant-loop-i l = string_at l.escaped l.bytes l.i ≡ string_length false l.bytes
