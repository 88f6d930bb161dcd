-- Each call takes a token, or stands before those that it makes with none taken.
use Rattle.std.proofs.Common.{◌≡◌, ◌+◌, ◌*◌, ◌≤◌}
use Rattle.fir_ast.specs.declared.place.Place.{Place}
use Rattle.fir_ast.specs.Statements.{Block}
use Rattle.fir_parse.specs.working.Reading.{read_on}
use Rattle.fir_parse.specs.working.Reads.{left, rest}
use Rattle.fir_parse.specs.working.States.{State}
use Rattle.fir_parse.specs.working.StatementTrees.{more_statements, IsWithin}
use Rattle.fir_parse.proofs.parser.Parser.+statements.Given as goal
use Rattle.fir_parse.specs.Limits.{everywhere}

abbrev pub decreases-begun : goal.decreases-begun
decreases-begun l = 4 * left l.self.now + 4

abbrev pub decreases-two_words : goal.decreases-two_words
decreases-two_words l = 4 * left l.self.now + 3

abbrev pub decreases-behind_is : goal.decreases-behind_is
decreases-behind_is l = 4 * left l.self.now + 3

abbrev pub decreases-declared : goal.decreases-declared
decreases-declared l = 4 * left l.self.now + 2

abbrev pub decreases-when_behind : goal.decreases-when_behind
decreases-when_behind l = 4 * left l.self.now + 1

abbrev pub decreases-block_behind : goal.decreases-block_behind
decreases-block_behind l = 4 * left l.self.now

abbrev pub decreases-indented_block : goal.decreases-indented_block
decreases-indented_block l = 4 * left l.self.now

abbrev pub decreases-behind_else : goal.decreases-behind_else
decreases-behind_else l = 4 * left l.self.now

abbrev pub decreases-next_else : goal.decreases-next_else
decreases-next_else l = 4 * left l.self.now

abbrev pub decreases-next_statement : goal.decreases-next_statement
decreases-next_statement l = 4 * left l.self.now + 1

abbrev pub decreases-more_statements : goal.decreases-more_statements
decreases-more_statements l = 4 * left l.self.now + 2

abbrev pub decreases-statements : goal.decreases-statements
decreases-statements l = 4 * left l.self.now + 3

-- reading on behind those that are read is reading on from the start
abbrev pub invariant-more_statements-loop-self : goal.invariant-more_statements-loop-self
invariant-more_statements-loop-self l =
    ((end : Place) (k : Block → State) → read_on everywhere end (more_statements l.depth l.initial.sequence k) (rest l.initial.self) ≡ read_on everywhere end (more_statements l.depth l.sequence k) (rest l.self))
    × IsWithin l.depth l.sequence
    × (left l.self ≤ left l.initial.self)

abbrev pub decreases-more_statements-loop-self : goal.decreases-more_statements-loop-self
decreases-more_statements-loop-self l = left l.self
