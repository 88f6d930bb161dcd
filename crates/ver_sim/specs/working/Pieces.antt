-- Operands as pieces, the first at the high end: each is put behind those before it. What is computed is cut to 128 bits.
use Rattle.std.specs.Prelude.{ℕ, zero, suc, ◌+◌, ◌-◌, ◌*◌, ◌/◌, ◌%◌, ◌^◌, List, [], ◌∷◌, ◌++◌, slice_index}
use Rattle.ver_ast.specs.declared.tree.Verilog.{Verilog}
use Rattle.ver_ast.specs.Atoms.{AtomTree, net, constant, bit_select, part_select, concat, repeat, AtomTrees, no_atoms, atom_before}
use Rattle.ver_ast.specs.Nets.{nets, width_among}
use Rattle.ver_sim.specs.declared.piece.Piece.{Piece}
use Rattle.ver_sim.specs.declared.piece.Piece.TheVariants as piece
use Rattle.ver_sim.specs.working.Valued.{place_among, valued}

abbrev pub piece_width : Piece → ℕ
piece_width (piece.Part place low width) = width
piece_width (piece.Number number width) = width

abbrev pub piece_number : List ℕ → Piece → ℕ
piece_number values (piece.Part place low width) = slice_index values place / 2 ^ low % 2 ^ width
piece_number values (piece.Number number width) = number

-- the places that a piece reads
abbrev pub piece_places : Piece → List ℕ
piece_places (piece.Part place low width) = place ∷ []
piece_places (piece.Number number width) = []

-- the number of the pieces, put behind another
unfoldable pub pieces_number : List ℕ → List Piece → ℕ → ℕ
pieces_number values [] before = before
pieces_number values (p ∷ ps) before = pieces_number values ps ((before * 2 ^ piece_width p + piece_number values p) % 2 ^ 128)

abbrev pub copied_pieces : ℕ → List Piece → List Piece
copied_pieces zero ps = []
copied_pieces (suc n) ps = ps ++ copied_pieces n ps

abbrev mutual
  pub pieces_of : Verilog → AtomTree → List Piece
  pieces_of v (net n) = piece.Part (place_among (valued v) n) 0 (width_among (nets v) n) ∷ []
  pieces_of v (constant width value) = piece.Number value width ∷ []
  pieces_of v (bit_select n i) = piece.Part (place_among (valued v) n) i 1 ∷ []
  pieces_of v (part_select n hi lo) = piece.Part (place_among (valued v) n) lo (hi + 1 - lo) ∷ []
  pieces_of v (concat a more) = pieces_of v a ++ more_pieces v more
  pieces_of v (repeat count a) = copied_pieces count (pieces_of v a)

  pub more_pieces : Verilog → AtomTrees → List Piece
  more_pieces v no_atoms = []
  more_pieces v (atom_before a more) = pieces_of v a ++ more_pieces v more
