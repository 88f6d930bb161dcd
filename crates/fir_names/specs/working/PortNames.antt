-- The ports of a module by their names.
use Rattle.std.specs.Prelude.{ℕ, List, [], ◌∷◌, if◌then◌else◌, Option, Some, None}
use Rattle.std.specs.Str.{bytes_eq}
use Rattle.fir_ast.specs.Circuits.{PortTree}

-- the first port of a name
abbrev pub find_port : List PortTree → List ℕ → Option PortTree
find_port [] name = None
find_port (p ∷ ps) name = if bytes_eq p.named.name name then Some p else find_port ps name
