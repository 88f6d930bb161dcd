-- Reading on behind the lengths so far is reading on as at the start.
use Rattle.std.proofs.Common.{◌≡◌, ◌≤◌}
use Rattle.fir_ast.specs.declared.place.Place.{Place}
use Rattle.fir_ast.specs.Types.{DataType}
use Rattle.fir_ast.specs.working.TypeViews.{type_of}
use Rattle.fir_parse.specs.Heights.{type_height}
use Rattle.fir_parse.specs.working.Reading.{read_on}
use Rattle.fir_parse.specs.working.Reads.{left, rest, HasHeight}
use Rattle.fir_parse.specs.working.States.{State, wants}
use Rattle.fir_parse.specs.working.Symbols.{dimensions}
use Rattle.fir_parse.proofs.parser.Parser.dimensions.Given as goal
use Rattle.fir_parse.specs.Limits.{everywhere}

abbrev pub invariant-loop-self : goal.invariant-loop-self
invariant-loop-self l = record {
  reads : (end : Place) (k : DataType → State) → read_on everywhere end (wants (dimensions l.depth (type_of l.fn.element)) k) (rest l.fn.self) ≡ read_on everywhere end (wants (dimensions l.depth (type_of l.ty.tree)) k) (rest l.self);
  high : HasHeight type_of type_height l.ty;
  nearer : left l.self ≤ left l.fn.self;
}

abbrev pub decreases-loop-self : goal.decreases-loop-self
decreases-loop-self l = left l.self
