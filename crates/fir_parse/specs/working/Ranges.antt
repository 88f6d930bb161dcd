-- Numbers that the code can hold.
use Rattle.std.specs.Prelude.{◌≡◌, ℕ, List, [], ◌∷◌, Bool, true, false, nat_eq, Option, Some, None, Result, Ok, Err, if◌then◌else◌}
use Rattle.fir_ast.specs.declared.place.Place.{Place}
use Rattle.fir_ast.specs.declared.fault.FirFault.TheVariants.{BadLiteral}
use Rattle.fir_ast.specs.declared.expressions.Literal.{Literal}
use Rattle.fir_parse.specs.declared.numerals.Numeral.{Numeral as NumeralRef}
use Rattle.fir_parse.specs.declared.stop.Stop.{Stop}
use Rattle.fir_parse.specs.declared.stop.Stop.TheVariants as stop
use Rattle.fir_parse.specs.Numbers.{Numeral, is_in_range, is_allowed, literal_of}

abbrev pub has_minus : List ℕ → Bool
has_minus [] = false
has_minus (b ∷ bs) = nat_eq b 45

-- the number, unless it is out of range
abbrev pub number_within : Option ℕ → Option ℕ
number_within None = None
number_within (Some n) = if is_in_range n then Some n else None

abbrev pub numeral_within : Option Numeral → Option Numeral
numeral_within None = None
numeral_within (Some n) = if is_in_range n.magnitude then Some n else None

abbrev pub numeral_of : Option NumeralRef → Option Numeral
numeral_of None = None
numeral_of (Some n) = Some (record { negative = n.negative; magnitude = n.magnitude })

-- the literal of a numeral, or a fault at the place of the numeral where it may have none
abbrev pub IsNumbered : Place → Bool → Option ℕ → Option Numeral → Place → Result Literal Stop → Type 0
IsNumbered p signed width n q (Ok l) = (is_allowed signed n ≡ true) × (l ≡ literal_of p signed width n)
IsNumbered p signed width n q (Err s) = (is_allowed signed n ≡ false) × (s ≡ stop.Fault (BadLiteral q))
