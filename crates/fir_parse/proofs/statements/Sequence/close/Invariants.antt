use Rattle.std.proofs.Common.{◌≡◌, map}
use Rattle.fir_ast.specs.Statements.{Block}
use Rattle.fir_ast.specs.working.Views.{block_of, stmt_of}
use Rattle.fir_parse.specs.working.StatementRules.{closed_before}
use Rattle.fir_parse.specs.working.StatementTrees.{done_of, opens_of, statements_before}
use Rattle.fir_parse.proofs.statements.Sequence.close.Given as goal

abbrev pub invariant-loop-when : goal.invariant-loop-when
invariant-loop-when l = (behind : Block) → statements_before (done_of l.self) (closed_before (opens_of l.self) (block_of (map stmt_of l.last.items)) behind) ≡ statements_before (done_of l.initial.self) (closed_before (opens_of l.initial.self) (block_of (map stmt_of l.initial.last.items)) behind)

abbrev pub decreases-loop-when : goal.decreases-loop-when
decreases-loop-when l = goal.left-loop-when l
