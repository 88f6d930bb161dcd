use Rattle.std.proofs.Common.{sym, ◌∙◌}
use Rattle.std.proofs.lemmas.List.{at_drop_all}
use Rattle.ver_sim.specs.declared.piece.Piece.TheVariants as piece
use Rattle.ver_sim.specs.working.Pieces.{pieces_number}
use Rattle.ver_sim.proofs.PieceNumbers.{pieces_next, pieces_none}
use Rattle.ver_sim.proofs.piece.number_of_pieces.Goals as goal

pub loop-piece-preserved : goal.loop-piece-preserved
loop-piece-preserved c =
    pieces_next c.args.values.now c.args.pieces.now c.loop-piece.piece-index (piece.Part 0 0 0) _ _ c.loop-piece.number _ _ c.loop-piece-test.true
    c.loop-piece.invariant c.width_of.ensures c.number_of.ensures c.joined-number.ensures

pub returns : goal.returns
returns c =
    sym (at_drop_all (λ l. pieces_number c.args.values.now l c.loop-piece.number) c.args.pieces.now c.loop-piece.piece-index c.loop-piece-test.false
    ∙ pieces_none c.args.values.now c.loop-piece.number) ∙ c.loop-piece.invariant
