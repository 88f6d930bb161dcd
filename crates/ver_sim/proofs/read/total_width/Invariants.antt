use Rattle.std.proofs.Common.{◌≡◌, ◌+◌, ◌%◌, ◌^◌, drop}
use Rattle.std.specs.Prelude.{sum_by}
use Rattle.ver_sim.specs.working.Pieces.{piece_width}
use Rattle.ver_sim.proofs.read.total_width.Given as goal

abbrev pub invariant-loop-piece : goal.invariant-loop-piece
invariant-loop-piece l = (l.width + sum_by piece_width (drop l.piece-index l.pieces)) % 2 ^ 32 ≡ sum_by piece_width l.pieces % 2 ^ 32
