-- The tokens of a text: those among its pieces, each with its place (IEEE 1364-2005, 3.1 to 3.3).
-- White space and comments stand freely between tokens. A comment begins wherever its two bytes stand outside of comments. The longest token is taken. Lines and
-- columns count from 1, columns in bytes.
use Rattle.std.specs.Prelude.{◌≡◌, ◌≢◌, ◌⊎◌, ℕ, ◌+◌, ◌≤◌, List, [], ◌∷◌, ◌++◌, length, flat_map, codes, count_by, nat_eq, not}
use Rattle.std.specs.List.{AllByRecursion, suffix_len}
use Rattle.fir_base.specs.Lists.{In}
use Rattle.ver_ast.specs.declared.place.VPlace.{VPlace}
use Rattle.ver_ast.specs.Tokens.{VToken, constant, question_digit, IsSpelledAs}

-- a byte of white space; a comment by what stands within it; a token with the bytes that spell it; a constant with the bytes that spell it, and a `?`
-- directly behind it
pub data VPiece : Type 0 where
  blank : (b : ℕ) → VPiece
  line_comment : (content : List ℕ) → VPiece
  block_comment : (content : List ℕ) → VPiece
  spelled : (t : VToken) (s : List ℕ) → VPiece
  questioned : (width value : ℕ) (s : List ℕ) → VPiece

abbrev pub bytes_of_piece : VPiece → List ℕ
bytes_of_piece (blank b) = b ∷ []
bytes_of_piece (line_comment content) = codes "//" ++ content
bytes_of_piece (block_comment content) = codes "/*" ++ content ++ codes "*/"
bytes_of_piece (spelled t s) = s
bytes_of_piece (questioned width value s) = s ++ codes "?"

pub record PlacedToken : Type 0 where
  pub token : VToken
  pub place : VPlace

-- behind these bytes: one more than the newlines in them, and one more than the bytes behind the last newline
abbrev pub place_after : List ℕ → VPlace
place_after before = record { line = 1 + count_by (λ b. nat_eq b 10) before; col = 1 + suffix_len (λ b. not (nat_eq b 10)) before }

abbrev pub stands_after : List ℕ → VToken → PlacedToken
stands_after before t = record { token = t; place = place_after before }

-- behind the bytes before it
abbrev pub tokens_of_piece : List ℕ → VPiece → List PlacedToken
tokens_of_piece before (blank b) = []
tokens_of_piece before (line_comment content) = []
tokens_of_piece before (block_comment content) = []
tokens_of_piece before (spelled t s) = stands_after before t ∷ []
tokens_of_piece before (questioned width value s) = stands_after before (constant width value) ∷ stands_after (before ++ s) question_digit ∷ []

abbrev pub tokens_of_pieces : List ℕ → List VPiece → List PlacedToken
tokens_of_pieces before [] = []
tokens_of_pieces before (p ∷ ps) = tokens_of_piece before p ++ tokens_of_pieces (before ++ bytes_of_piece p) ps

abbrev pub BeginsWith : List ℕ → List ℕ → Type 0
BeginsWith text front = (rest : List ℕ) × (text ≡ front ++ rest)

-- space, tab, carriage return, newline
abbrev pub white_space : List ℕ
white_space = 32 ∷ 9 ∷ 13 ∷ 10 ∷ []

-- `*/` stands nowhere in it
abbrev pub HasNoEnd : List ℕ → Type 0
HasNoEnd content = (front back : List ℕ) → content ≢ front ++ (codes "*/" ++ back)

-- nothing that is spelled where the token begins has more bytes
abbrev pub IsLongestToken : List ℕ → List ℕ → Type 0
IsLongestToken s behind = (other : VToken) (r more : List ℕ) → IsSpelledAs other r → s ++ behind ≡ r ++ more → length r ≤ length s

-- no comment begins where the token does
abbrev pub BeginsNoComment : List ℕ → Type 0
BeginsNoComment text = (BeginsWith text (codes "//") → ⊥) × (BeginsWith text (codes "/*") → ⊥)

-- a constant with a `?` directly behind it is a piece with it
abbrev pub HasNoQuestion : VToken → List ℕ → Type 0
HasNoQuestion (constant width value) behind = BeginsWith behind (codes "?") → ⊥
HasNoQuestion _ behind = Unit {0}

-- a piece, with the bytes behind it
abbrev pub IsVPiece : VPiece → List ℕ → Type 0
IsVPiece (blank b) behind = In white_space b
IsVPiece (line_comment content) behind = AllByRecursion (λ b. b ≢ 10) content × ((behind ≡ []) ⊎ BeginsWith behind (10 ∷ []))
IsVPiece (block_comment content) behind = HasNoEnd content
IsVPiece (spelled t s) behind = IsSpelledAs t s × IsLongestToken s behind × BeginsNoComment (s ++ behind) × HasNoQuestion t behind
IsVPiece (questioned width value s) behind = IsSpelledAs (constant width value) s

abbrev pub AreVPieces : List VPiece → Type 0
AreVPieces [] = Unit {0}
AreVPieces (p ∷ ps) = IsVPiece p (flat_map bytes_of_piece ps) × AreVPieces ps

-- the bytes are those of pieces, and these are the tokens among them
pub record HasTokens (bytes : List ℕ) (ts : List PlacedToken) : Type 0 where
  pub pieces : List VPiece
  pub bytes_are : bytes ≡ flat_map bytes_of_piece pieces
  pub each : AreVPieces pieces
  pub tokens_are : ts ≡ tokens_of_pieces [] pieces
