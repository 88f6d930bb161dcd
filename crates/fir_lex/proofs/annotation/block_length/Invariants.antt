use Rattle.std.proofs.Common.{◌≡◌, ◌+◌, ◌≤◌}
use Rattle.fir_lex.specs.working.Front.{in_brackets, block_length}
use Rattle.fir_lex.specs.working.Blocks.{within_of, depth_of}
use Rattle.fir_lex.proofs.Lengths.{block_at}
use Rattle.fir_lex.proofs.annotation.block_length.Given as goal

abbrev pub invariant-loop-i : goal.invariant-loop-i
invariant-loop-i l = (depth_of l.within ≤ l.i + 1) × (block_at (within_of l.within) l.bytes l.i ≡ block_length (in_brackets 1) l.bytes)
