use Rattle.std.proofs.Common.{◌≡◌, drop}
use Rattle.ver_sim.specs.working.Pieces.{pieces_number}
use Rattle.ver_sim.proofs.piece.number_of_pieces.Given as goal

abbrev pub invariant-loop-piece : goal.invariant-loop-piece
invariant-loop-piece l = pieces_number l.values (drop l.piece-index l.pieces) l.number ≡ pieces_number l.values l.pieces 0
