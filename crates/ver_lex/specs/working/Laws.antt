-- Laws about what a text is lexed as.
use Rattle.std.specs.Prelude.{◌≡◌, ◌⊎◌, ℕ, List}
use Rattle.ver_ast.specs.Pieces.{PlacedToken, HasTokens}
use Rattle.ver_lex.specs.declared.bad_byte.BadByte.{BadByte}
use Rattle.ver_lex.specs.Lexed.{StopsAt}

-- a text has tokens, or it stops
abbrev pub HasTokensOrStops : Type 0
HasTokensOrStops =
    (bytes : List ℕ)
    → ((ts : List PlacedToken) × HasTokens bytes ts) ⊎ ((ts : List PlacedToken) × (bad : BadByte) × StopsAt bytes ts bad)

-- and never both
abbrev pub NeverBoth : Type 0
NeverBoth = (bytes : List ℕ) (ts us : List PlacedToken) (bad : BadByte) → HasTokens bytes ts → StopsAt bytes us bad → ⊥

-- it stops at one byte at most, behind one list of tokens
abbrev pub StopsOnce : Type 0
StopsOnce =
    (bytes : List ℕ) (ts us : List PlacedToken) (bad other : BadByte) → StopsAt bytes ts bad → StopsAt bytes us other → (ts ≡ us) × (bad ≡ other)
