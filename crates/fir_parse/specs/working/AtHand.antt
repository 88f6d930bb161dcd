-- The token at hand.
use Rattle.std.specs.Prelude.{◌≡◌, List, [], ◌∷◌, drop}
use Rattle.fir_ast.specs.declared.place.Place.{Place}
use Rattle.fir_ast.specs.declared.fault.FirFault.TheVariants.{Syntax}
use Rattle.fir_parse.specs.declared.lexeme.Lexeme.{Lexeme}
use Rattle.fir_parse.specs.declared.lexeme.Lexeme.TheVariants.{End}
use Rattle.fir_parse.specs.declared.parser.Next.{Next}
use Rattle.fir_parse.specs.declared.stop.Stop.{Stop}
use Rattle.fir_parse.specs.declared.stop.Stop.TheVariants as stop
use Rattle.fir_parse.specs.Lexemes.{Terminal}
use Rattle.fir_parse.specs.working.Seen.{seen}

abbrev pub StandsFirst : List Terminal → Lexeme → Place → Type 0
StandsFirst ts End p = ts ≡ []
StandsFirst ts l p = ts ≡ record { lexeme = seen l; place = p } ∷ drop 1 ts

-- it is the first of what is left, or nothing is
abbrev pub IsAtHand : List Terminal → Next → Type 0
IsAtHand ts n = StandsFirst ts n.lexeme n.place

-- the token as a list of one, or none at the end
abbrev pub first_of : Lexeme → Place → List Terminal
first_of End p = []
first_of l p = record { lexeme = seen l; place = p } ∷ []

-- the token at hand is not expected
abbrev pub stop_at : Lexeme → Place → Stop
stop_at End p = stop.AtEnd
stop_at l p = stop.Fault (Syntax p)
