-- Tokens as the grammar sees them.
use Rattle.std.specs.Prelude.{ℕ, List, codes, if◌then◌else◌}
use Rattle.std.specs.Str.{bytes_eq}
use Rattle.fir_ast.specs.declared.place.Place.{Place}
use Rattle.fir_lex.specs.Tokens.{Token, Placed}
use Rattle.fir_lex.specs.Tokens as token
use Rattle.fir_parse.specs.declared.lexeme.Mark.{Mark}
use Rattle.fir_parse.specs.declared.lexeme.Mark.TheVariants.{Connect, PartialConnect, Arrow, Equals, Less, Greater, OpenRound, CloseRound, OpenSquare, CloseSquare, OpenCurly, CloseCurly, Comma, Colon, Dot}

pub data Lexeme : Type 0 where
  word : List ℕ → Lexeme
  dash_word : List ℕ → Lexeme
  integer : List ℕ → Lexeme
  text : List ℕ → Lexeme
  mark : Mark → Lexeme
  annotations : Lexeme
  line_end : Lexeme
  level_opens : Lexeme
  level_closes : Lexeme
  other : Lexeme

abbrev pub sign_lexeme : List ℕ → Lexeme
sign_lexeme s =
    if bytes_eq s (codes "<=") then mark Connect
    else if bytes_eq s (codes "<-") then mark PartialConnect
    else if bytes_eq s (codes "=>") then mark Arrow
    else if bytes_eq s (codes "=") then mark Equals
    else if bytes_eq s (codes "<") then mark Less
    else if bytes_eq s (codes ">") then mark Greater
    else if bytes_eq s (codes "(") then mark OpenRound
    else if bytes_eq s (codes ")") then mark CloseRound
    else if bytes_eq s (codes "[") then mark OpenSquare
    else if bytes_eq s (codes "]") then mark CloseSquare
    else if bytes_eq s (codes "{") then mark OpenCurly
    else if bytes_eq s (codes "}") then mark CloseCurly
    else if bytes_eq s (codes ",") then mark Comma
    else if bytes_eq s (codes ":") then mark Colon
    else if bytes_eq s (codes ".") then mark Dot
    else other

abbrev pub lexeme_of : Token → Lexeme
lexeme_of (token.word s) = word s
lexeme_of (token.dash_word s) = dash_word s
lexeme_of (token.integer s) = integer s
lexeme_of (token.text s) = text s
lexeme_of (token.sign s) = sign_lexeme s
lexeme_of token.annotations = annotations
lexeme_of token.line_end = line_end
lexeme_of token.level_opens = level_opens
lexeme_of token.level_closes = level_closes

-- a token in its place
pub record Terminal : Type 0 where
  pub lexeme : Lexeme
  pub place : Place

abbrev pub terminal_of : Placed → Terminal
terminal_of t = record { lexeme = lexeme_of t.token; place = t.place }
