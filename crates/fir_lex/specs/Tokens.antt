-- The tokens of a text, as plain data.
-- A word is a letter or an underscore, then letters, digits, underscores and dollar signs; four words have a dash. An integer is kept as it is
-- spelled, with its sign where it has one; a string as the bytes between its quotes; a sign as its bytes.
use Rattle.std.specs.Prelude.{ℕ, List}
use Rattle.fir_ast.specs.declared.place.Place.{Place}

pub data Token : Type 0 where
  word : List ℕ → Token
  dash_word : List ℕ → Token
  integer : List ℕ → Token
  text : List ℕ → Token
  sign : List ℕ → Token
  annotations : Token
  line_end : Token
  level_opens : Token
  level_closes : Token

pub record Placed : Type 0 where
  pub token : Token
  pub place : Place
