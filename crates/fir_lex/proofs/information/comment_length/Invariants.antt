use Rattle.std.proofs.Common.{◌≡◌, ◌+◌, drop}
use Rattle.fir_lex.specs.working.Front.{comment_length}
use Rattle.fir_lex.proofs.information.comment_length.Given as goal

abbrev pub invariant-loop-i : goal.invariant-loop-i
invariant-loop-i l = l.i + comment_length (drop l.i l.bytes) ≡ comment_length l.bytes
