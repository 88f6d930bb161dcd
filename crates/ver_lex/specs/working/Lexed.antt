-- The tokens of a text as the lexer gives them.
use Rattle.std.specs.Prelude.{◌≡◌, ◌⊎◌, ℕ, List, Option, Some, None}
use Rattle.ver_ast.specs.Pieces.{PlacedToken, HasTokens}
use Rattle.ver_lex.specs.declared.bad_byte.BadByte.{BadByte}
use Rattle.ver_lex.specs.Lexed.{StopsAt}

-- a text, its tokens in order, and the byte at which they stop
pub record Lexed : Type 0 where
  pub text : List ℕ
  pub tokens : List PlacedToken
  pub stop : Option BadByte

abbrev pub IsLexed : List ℕ → Lexed → Type 0
IsLexed bytes t =
    (t.text ≡ bytes) × ((t.stop ≡ None) × HasTokens bytes t.tokens ⊎ ((b : BadByte) × (t.stop ≡ Some b) × StopsAt bytes t.tokens b))
