-- Where an expression stands.
use Rattle.fir_ast.specs.declared.place.Place.{Place}
use Rattle.fir_ast.specs.Expressions.{Expression, reference, literal, operation, mux, validif}

-- where an expression begins
abbrev pub place_of : Expression → Place
place_of (reference p n ps) = p
place_of (literal l) = l.place
place_of (operation p op es ks) = p
place_of (mux p c a b) = p
place_of (validif p c a) = p
