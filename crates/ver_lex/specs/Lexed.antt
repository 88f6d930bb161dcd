-- Where the pieces of a text stop: at its first byte that is in none (IEEE 1364-2005, 3.1 to 3.8).
use Rattle.std.specs.Prelude.{◌≡◌, ℕ, List, [], ◌∷◌, ◌++◌, flat_map}
use Rattle.ver_ast.specs.Pieces.{VPiece, bytes_of_piece, PlacedToken, place_after, tokens_of_pieces, IsVPiece}
use Rattle.ver_lex.specs.declared.bad_byte.BadByte.{BadByte}

-- pieces, each with all the bytes behind it
abbrev pub AreVPiecesBefore : List VPiece → List ℕ → Type 0
AreVPiecesBefore [] rest = Unit {0}
AreVPiecesBefore (p ∷ ps) rest = IsVPiece p (flat_map bytes_of_piece ps ++ rest) × AreVPiecesBefore ps rest

-- no piece of any kind begins there
abbrev pub BeginsNoPiece : List ℕ → Type 0
BeginsNoPiece rest = (p : VPiece) (behind : List ℕ) → rest ≡ bytes_of_piece p ++ behind → IsVPiece p behind → ⊥

-- whole pieces, and then a byte with which none begins
pub record StopsAt (bytes : List ℕ) (tokens : List PlacedToken) (bad : BadByte) : Type 0 where
  pub pieces : List VPiece
  pub rest : List ℕ
  pub more : List ℕ
  pub bytes_are : bytes ≡ flat_map bytes_of_piece pieces ++ rest
  pub each : AreVPiecesBefore pieces rest
  pub rest_is : rest ≡ bad.byte ∷ more
  pub place_is : bad.place ≡ place_after (flat_map bytes_of_piece pieces)
  pub no_piece : BeginsNoPiece rest
  pub tokens_are : tokens ≡ tokens_of_pieces [] pieces
