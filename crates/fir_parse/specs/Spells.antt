-- What a text spells.
use Rattle.std.specs.Prelude.{ℕ, List, map}
use Rattle.fir_ast.specs.Circuits.{CircuitTree}
use Rattle.fir_lex.specs.Tokens.{Placed}
use Rattle.fir_lex.specs.TokensOf.{AreTokensOf}
use Rattle.fir_parse.specs.Lexemes.{Terminal, terminal_of}
use Rattle.fir_parse.specs.Limits.{everywhere}
use Rattle.fir_parse.specs.CircuitForms.{IsSpelled}

abbrev pub terminals : List Placed → List Terminal
terminals = map terminal_of

-- the bytes have tokens, form by form, and these are those of the circuit, within the limits everywhere
abbrev pub Spells : List ℕ → CircuitTree → Type 0
Spells bytes c = (ts : List Placed) × AreTokensOf bytes ts × IsSpelled everywhere c (terminals ts)
