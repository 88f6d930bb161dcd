-- Where the words of registers and arrays stand in the state: the words of one name behind those of the names before it.
use Rattle.std.specs.Prelude.{ℕ, ◌+◌, List, [], ◌∷◌}
use Rattle.ver_ast.specs.Nets.{Variable}
use Rattle.ver_sim.specs.declared.declarations.Span.{Span}

abbrev pub spans_from : ℕ → List Variable → List Span
spans_from base [] = []
spans_from base (k ∷ ks) = record { base = base; depth = k.depth } ∷ spans_from (base + k.depth) ks
