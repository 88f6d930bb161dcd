use Rattle.std.proofs.Common.{◌≡◌, ◌≤◌, ◌++◌, List, map}
use Rattle.fir_ast.specs.declared.place.Place.{Place}
use Rattle.fir_ast.specs.Circuits.{ModuleTree}
use Rattle.fir_ast.specs.working.Views.{module_of}
use Rattle.fir_parse.specs.working.Reading.{read_on}
use Rattle.fir_parse.specs.working.Reads.{left, rest}
use Rattle.fir_parse.specs.working.States.{State, wants}
use Rattle.fir_parse.specs.working.Symbols.{more_modules}
use Rattle.fir_parse.proofs.parser.Parser.more_modules.Given as goal
use Rattle.fir_parse.specs.Limits.{everywhere}

abbrev pub invariant-loop-self : goal.invariant-loop-self
invariant-loop-self l = record {
  alike : (end : Place) (k : List ModuleTree → State) → read_on everywhere end (wants more_modules (λ ms. k (map module_of l.fn.before.items ++ ms))) (rest l.initial.self) ≡ read_on everywhere end (wants more_modules (λ ms. k (map module_of l.modules.items ++ ms))) (rest l.self);
  nearer : left l.self ≤ left l.initial.self;
}

abbrev pub decreases-loop-self : goal.decreases-loop-self
decreases-loop-self l = left l.self
