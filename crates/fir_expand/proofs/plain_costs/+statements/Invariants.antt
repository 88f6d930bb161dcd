use Rattle.std.proofs.Common.{map}
use Rattle.fir_ast.specs.working.Views.{block_of, stmt_of}
use Rattle.fir_expand.specs.working.OwnSums.{plain_cost_of_block}
use Rattle.fir_expand.proofs.SaturatedSums.{SumSoFar}
use Rattle.fir_expand.proofs.plain_costs.+statements.Given as goal

abbrev pub invariant-plain_cost_of_block-loop-statement : goal.invariant-plain_cost_of_block-loop-statement
invariant-plain_cost_of_block-loop-statement l = SumSoFar (λ ss. plain_cost_of_block (block_of (map stmt_of ss))) l.body l.statement-index l.sum
