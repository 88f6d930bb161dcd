use Rattle.std.proofs.Common.{◌≡◌}
use Rattle.ver_lex.specs.working.Fronts.{block_length}
use Rattle.ver_lex.proofs.Lengths.{block_at}
use Rattle.ver_lex.proofs.comment.block_length.Given as goal

abbrev pub invariant-loop-i : goal.invariant-loop-i
invariant-loop-i l = block_at l.bytes l.i ≡ block_length l.bytes
