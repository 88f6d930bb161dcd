use Rattle.std.proofs.Common.{List, ◌++◌, ap, ◌∙◌}
use Rattle.ver_sim.specs.declared.piece.Piece.{Piece}
use Rattle.ver_sim.specs.working.Pieces.{pieces_of}
use Rattle.ver_sim.proofs.ReadForms.{pieces_read}
use Rattle.ver_sim.proofs.read.read_pieces.Goals as goal

pub returns : goal.returns
returns c v k s =
    pieces_read c.read_of.result c.put_pieces.new.out v k.valid c.args.atom.now s
    (c.in_ok-put_pieces.ensures v k s ∙ ap (λ (ps : List Piece). ps ++ pieces_of v c.args.atom.now) c.new-pieces.ensures.items) c.read_of.ensures.operand c.read_of.ensures.width
