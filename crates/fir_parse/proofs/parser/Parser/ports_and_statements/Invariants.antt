use Rattle.std.proofs.Common.{◌≡◌, ◌≤◌, map}
use Rattle.fir_ast.specs.declared.place.Place.{Place}
use Rattle.fir_ast.specs.working.Views.{port_of}
use Rattle.fir_parse.specs.working.Reading.{read_on}
use Rattle.fir_parse.specs.working.Reads.{left, rest}
use Rattle.fir_parse.specs.working.States.{State, wants}
use Rattle.fir_parse.specs.working.Symbols.{BodyTree, ports_and_statements}
use Rattle.fir_parse.proofs.PortReads.{after_ports}
use Rattle.fir_parse.proofs.parser.Parser.ports_and_statements.Given as goal
use Rattle.fir_parse.specs.Limits.{everywhere}

abbrev pub invariant-loop-self : goal.invariant-loop-self
invariant-loop-self l = record {
  alike : (end : Place) (k : BodyTree → State) → read_on everywhere end (wants ports_and_statements k) (rest l.initial.self) ≡ read_on everywhere end (wants ports_and_statements (λ b. k (after_ports (map port_of l.ports.items) b))) (rest l.self);
  nearer : left l.self ≤ left l.initial.self;
}

abbrev pub decreases-loop-self : goal.decreases-loop-self
decreases-loop-self l = left l.self
