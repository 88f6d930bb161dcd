use Rattle.std.proofs.Common.{◌+◌, ◌*◌, map}
use Rattle.fir_leaf.specs.declared.statement.LeafStmt.TheVariants as code
use Rattle.fir_leaf.specs.working.NodeBlocks.{block_in, statement_in}
use Rattle.fir_drivers.specs.working.Walks.{Goes}
use Rattle.fir_drivers.proofs.StatementSizes.{block_size, statement_size}
use Rattle.fir_drivers.proofs.WalkedBlocks.{WalksSoFar}
use Rattle.fir_drivers.proofs.statements.+walk.Given as goal

abbrev pub decreases-walk_block : goal.decreases-walk_block
decreases-walk_block l = 2 * block_size (block_in l.setting.now.nodes.now l.body.now)

abbrev pub decreases-walk : goal.decreases-walk
decreases-walk l = 2 * statement_size (statement_in l.setting.now.nodes.now l.statement.now) + 1

abbrev pub decreases-walk_when : goal.decreases-walk_when
decreases-walk_when l = 2 * statement_size (statement_in l.setting.now.nodes.now (code.When l.when.now))

abbrev pub invariant-walk_block-loop-statement : goal.invariant-walk_block-loop-statement
invariant-walk_block-loop-statement l = record {
  goes : Goes l.fn.net l.net l.fn.slots.items l.slots.items;
  walks : WalksSoFar l.setting l.body l.statement-index l.depth l.fn.net l.net l.fn.slots.items l.slots.items (map (λ v. v.items) l.fn.lists.items)
      (map (λ v. v.items) l.lists.items);
}
