-- What stands behind the circuit of a text.
use Rattle.std.proofs.Common.{◌≡◌, List, [], ◌∷◌, drop, Ok, Err, refl, ◌∙◌}
use Rattle.fir_ast.specs.declared.place.Place.{Place}
use Rattle.fir_ast.specs.declared.fault.FirFault.TheVariants.{Syntax}
use Rattle.fir_ast.specs.Circuits.{CircuitTree}
use Rattle.fir_lex.specs.working.TokenText.{TokenText}
use Rattle.fir_parse.specs.declared.lexeme.Lexeme.{Lexeme as LexemeRef}
use Rattle.fir_parse.specs.declared.lexeme.Lexeme.TheVariants.{End}
use Rattle.fir_parse.specs.working.AtHand.{StandsFirst, stop_at}
use Rattle.fir_parse.specs.Lexemes.{Lexeme, Terminal}
use Rattle.fir_parse.specs.working.Parsed.{ReadWhole}
use Rattle.fir_parse.specs.working.Reading.{read_on}
use Rattle.fir_parse.specs.working.Reads.{Gives}
use Rattle.fir_parse.specs.Spells.{terminals}
use Rattle.fir_parse.specs.working.States.{done, wants}
use Rattle.fir_parse.specs.working.Symbols.{a_text}
use Rattle.fir_parse.specs.Limits.{everywhere}

-- the text ends there
pub whole_ends : (c : CircuitTree) (end : Place) (a : List Terminal) → a ≡ [] → read_on everywhere end (done c) a ≡ Ok c
unfolding read_on
whole_ends c end a e = rw e refl

more_stands : (c : CircuitTree) (end : Place) (l : Lexeme) (p : Place) (a : List Terminal) → a ≡ record { lexeme = l; place = p } ∷ drop 1 a → read_on everywhere end (done c) a ≡ Err (Syntax p)
unfolding read_on
more_stands c end l p a e = rw e refl

-- one more token is not expected
pub whole_stops : (t : TokenText) (c : CircuitTree) (a : List Terminal) (l : LexemeRef) (p : Place) → Gives (wants a_text) c (terminals t.tokens) a → StandsFirst a l p → (l ≡ End → ⊥) → ReadWhole t (Err (stop_at l p))
whole_stops t c a End p g h n = absurd (n refl)
whole_stops t c a _ p g h n = λ end. g end done ∙ more_stands c end _ p a h
