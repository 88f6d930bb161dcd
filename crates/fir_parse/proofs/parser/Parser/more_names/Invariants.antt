use Rattle.std.proofs.Common.{◌≡◌, ◌≤◌, ◌++◌, List, map}
use Rattle.fir_ast.specs.declared.place.Place.{Place}
use Rattle.fir_ast.specs.Statements.{PlacedName}
use Rattle.fir_ast.specs.working.Views.{named_of}
use Rattle.fir_parse.specs.working.Reading.{read_on}
use Rattle.fir_parse.specs.working.Reads.{left, rest}
use Rattle.fir_parse.specs.working.States.{State, wants}
use Rattle.fir_parse.specs.working.Symbols.{more_names}
use Rattle.fir_parse.proofs.parser.Parser.more_names.Given as goal
use Rattle.fir_parse.specs.Limits.{everywhere}

abbrev pub invariant-loop-self : goal.invariant-loop-self
invariant-loop-self l = record {
  alike : (end : Place) (k : List PlacedName → State) → read_on everywhere end (wants more_names (λ ns. k (map named_of l.fn.before.items ++ ns))) (rest l.initial.self) ≡ read_on everywhere end (wants more_names (λ ns. k (map named_of l.names.items ++ ns))) (rest l.self);
  nearer : left l.self ≤ left l.initial.self;
}

abbrev pub decreases-loop-self : goal.decreases-loop-self
decreases-loop-self l = left l.self
