use Rattle.std.proofs.Common.{◌≡◌, ◌≤◌, ◌++◌, List, map}
use Rattle.fir_ast.specs.declared.place.Place.{Place}
use Rattle.fir_ast.specs.Statements.{MemoryPart}
use Rattle.fir_ast.specs.working.Views.{memory_part_of}
use Rattle.fir_parse.specs.working.Reading.{read_on}
use Rattle.fir_parse.specs.working.Reads.{left, rest}
use Rattle.fir_parse.specs.working.States.{State, wants}
use Rattle.fir_parse.specs.working.Symbols.{more_memory_fields}
use Rattle.fir_parse.proofs.parser.Parser.more_memory_fields.Given as goal
use Rattle.fir_parse.specs.Limits.{everywhere}

abbrev pub invariant-loop-self : goal.invariant-loop-self
invariant-loop-self l = record {
  alike : (end : Place) (k : List MemoryPart → State) → read_on everywhere end (wants (more_memory_fields l.depth) (λ fs. k (map memory_part_of l.fn.before.items ++ fs))) (rest l.initial.self) ≡ read_on everywhere end (wants (more_memory_fields l.depth) (λ fs. k (map memory_part_of l.fields.items ++ fs))) (rest l.self);
  nearer : left l.self ≤ left l.initial.self;
}

abbrev pub decreases-loop-self : goal.decreases-loop-self
decreases-loop-self l = left l.self
