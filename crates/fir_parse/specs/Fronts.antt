-- Texts of the grammar, whatever their limits, and tokens that begin such a text.
use Rattle.std.specs.Prelude.{List, [], ◌∷◌, ◌++◌, length, Bool, true, false, ◌||◌, ◌&&◌, nat_eq, nat_lt}
use Rattle.fir_ast.specs.Circuits.{CircuitTree}
use Rattle.fir_parse.specs.Lexemes.{Terminal}
use Rattle.fir_parse.specs.Limits.{Limit, numbers, nesting, versions, Limits, nowhere}
use Rattle.fir_parse.specs.CircuitForms.{IsSpelled}

-- these tokens are a text of the grammar, whatever its numbers, nesting and version
abbrev pub IsText : List Terminal → Type 0
IsText ts = (c : CircuitTree) × IsSpelled nowhere c ts

-- some text of the grammar begins with these tokens
abbrev pub IsFront : List Terminal → Type 0
IsFront front = (more : List Terminal) × IsText (front ++ more)

-- no text of the grammar has the next token behind this front, or ends here
abbrev pub StopsAt : List Terminal → List Terminal → Type 0
StopsAt front [] = IsText front → ⊥
StopsAt front (t ∷ back) = IsFront (front ++ t ∷ []) → ⊥

-- where `more` follows some tokens: limits count at each of those, and at the last of them only the limits that are asked for
abbrev pub up_to : (Limit → Bool) → List Terminal → Limits
up_to asked more limit left = nat_lt (length more) (length left) || (asked limit && nat_eq (length left) (length more))

-- some text of the grammar begins with these tokens and keeps its limits at each of them, at the last those that are asked for
abbrev pub IsFrontWithin : (Limit → Bool) → List Terminal → Type 0
IsFrontWithin asked front = (more : List Terminal) × (c : CircuitTree) × IsSpelled (up_to asked more) c (front ++ more)

abbrev pub all_limits : Limit → Bool
all_limits limit = true

abbrev pub no_limit : Limit → Bool
no_limit limit = false

abbrev pub only_numbers : Limit → Bool
only_numbers numbers = true
only_numbers _ = false

abbrev pub only_nesting : Limit → Bool
only_nesting nesting = true
only_nesting _ = false

abbrev pub only_versions : Limit → Bool
only_versions versions = true
only_versions _ = false
