-- The way of the lexer through a text.
use Rattle.std.specs.Prelude.{◌≡◌, ℕ, ◌+◌, ◌<◌, List, [], map, take, drop, flat_map, Bool, true, false}
use Rattle.ver_ast.specs.Pieces.{VPiece, bytes_of_piece, PlacedToken, place_after, tokens_of_pieces}
use Rattle.ver_lex.specs.declared.draft.Draft.{Draft}
use Rattle.ver_lex.specs.declared.lexer.Lexer.{Lexer}
use Rattle.ver_lex.specs.Lexed.{AreVPiecesBefore, BeginsNoPiece}
use Rattle.ver_lex.specs.working.Bytes.{place_behind}
use Rattle.ver_lex.specs.working.View.{spelled}

abbrev pub tokens_in : Draft → List PlacedToken
tokens_in d = map (spelled d.text.items) d.items.items

-- the bytes before the cursor, and those from it on
abbrev pub before : Lexer → List ℕ
before l = take l.cursor.index l.draft.text.items

abbrev pub rest_of : Lexer → List ℕ
rest_of l = drop l.cursor.index l.draft.text.items

-- whole pieces stand before the cursor, and their tokens are found
pub record HasRead (l : Lexer) : Type 0 where
  pub pieces : List VPiece
  pub bytes_are : before l ≡ flat_map bytes_of_piece pieces
  pub each : AreVPiecesBefore pieces (rest_of l)
  pub place_is : l.cursor.place ≡ place_after (before l)
  pub tokens_are : tokens_in l.draft ≡ tokens_of_pieces [] pieces

-- so many bytes are passed
pub record Passes (old : Lexer) (count : ℕ) (new : Lexer) : Type 0 where
  pub index : new.cursor.index ≡ old.cursor.index + count
  pub place : new.cursor.place ≡ place_behind old.cursor.place (take count (rest_of old))

-- one piece more is read, or none begins at the cursor
abbrev pub StepsTo : Bool → Lexer → Lexer → Type 0
StepsTo true old new = HasRead new × (old.cursor.index < new.cursor.index)
StepsTo false old new = (new ≡ old) × BeginsNoPiece (rest_of old)
