-- The ports so far are read.
use Rattle.std.proofs.Common.{[], ◌∷◌, ◌<◌, length}
use Rattle.std.specs.List.{AllByRecursion}
use Rattle.ver_words.specs.Names.{IsName}
use Rattle.ver_ast.specs.Grammar.{ports_tokens}
use Rattle.ver_parse.specs.working.Reads.{left, Leads}
use Rattle.ver_parse.specs.working.Symbols.{a_mark, a_direction, a_range, a_name, more_ports}
use Rattle.ver_parse.proofs.parser.Parser.some_ports.Given as goal

abbrev pub invariant-loop-ports : goal.invariant-loop-ports
invariant-loop-ports l = record {
  far : Leads (a_mark ∷ a_direction ∷ a_range ∷ a_name ∷ more_ports ∷ []) (ports_tokens l.ports.items) (more_ports ∷ []) l.fn.self l.self;
  some : 0 < length l.ports.items;
  named : AllByRecursion (λ p. IsName p.name) l.ports.items;
  nearer : left l.self < left l.fn.self;
}

abbrev pub decreases-loop-ports : goal.decreases-loop-ports
decreases-loop-ports l = left l.self
