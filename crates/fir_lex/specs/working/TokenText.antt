-- A text and its tokens.
-- The text is its bytes, and the tokens stand in the order of their places.
use Rattle.std.specs.Prelude.{ℕ, List}
use Rattle.fir_lex.specs.Tokens.{Placed}

pub record TokenText : Type 0 where
  pub text : List ℕ
  pub tokens : List Placed
