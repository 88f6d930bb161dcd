-- The places of tokens. The ends of lines and the levels that open and close have none in a tree: a level stands where the next token does, and
-- at the end of a text all levels close where its last line ends.
use Rattle.std.specs.Prelude.{List, [], ◌∷◌, Bool, true, false}
use Rattle.fir_ast.specs.declared.place.Place.{Place}
use Rattle.fir_parse.specs.Lexemes.{Lexeme, line_end, level_opens, level_closes, Terminal}

abbrev pub has_place : Lexeme → Bool
has_place line_end = false
has_place level_opens = false
has_place level_closes = false
has_place _ = true

abbrev pub with_place : Bool → Place → List Place → List Place
with_place true p ps = p ∷ ps
with_place false p ps = ps

abbrev pub token_places : List Terminal → List Place
token_places [] = []
token_places (t ∷ ts) = with_place (has_place t.lexeme) t.place (token_places ts)
