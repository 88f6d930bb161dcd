-- The faults of a tree: their codes, places and evidence.
use Rattle.std.specs.Prelude.{ℕ, List, ◌++◌, codes, decimal}
use Rattle.ver_ast.specs.declared.place.VPlace.{VPlace}
use Rattle.ver_fault.specs.Texts.{vplace_text}
use Rattle.ver_fault.specs.Faults.{VFault, V03, V04, V05, V08}

-- a name that is not declared before it is used
abbrev pub undeclared_fault : VPlace → List ℕ → VFault
undeclared_fault p n = record { code = V03; place = p; evidence = codes "undeclared " ++ n }

-- what has so many bits where so many are needed
abbrev pub width_fault : VPlace → ℕ → ℕ → VFault
width_fault p needed w = record { code = V04; place = p; evidence = codes "width " ++ decimal needed ++ codes " " ++ decimal w }

-- what does not fit otherwise
abbrev pub kind_fault : VPlace → VFault
kind_fault p = record { code = V04; place = p; evidence = codes "kind" }

-- a second declaration or driver, with the place of the first
abbrev pub twice_fault : VPlace → List ℕ → VPlace → VFault
twice_fault p n first = record { code = V05; place = p; evidence = codes "twice " ++ n ++ codes " " ++ vplace_text first }

-- what nothing drives
abbrev pub undriven_fault : VPlace → List ℕ → VFault
undriven_fault p n = record { code = V08; place = p; evidence = codes "undriven " ++ n }
