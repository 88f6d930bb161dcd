-- The first in the text of some places.
use Rattle.std.specs.Prelude.{◌≡◌, List, [], Option, Some, None}
use Rattle.fir_ast.specs.declared.place.Place.{Place}
use Rattle.fir_leaf.specs.working.ClockFaults.{IsFirstPlace}

-- of no places there is none
abbrev pub IsFirstOf : List Place → Option Place → Type 0
IsFirstOf ps None = ps ≡ []
IsFirstOf ps (Some p) = IsFirstPlace p ps
