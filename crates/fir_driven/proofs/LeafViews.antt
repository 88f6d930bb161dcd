-- What the code's statements stand for, one by one.
use Rattle.std.proofs.Common.{◌≡◌, List, sym, ap, ◌∙◌}
use Rattle.fir_leaf.specs.declared.node.Node.{Node}
use Rattle.fir_leaf.specs.declared.statement.Drive.{Drive}
use Rattle.fir_leaf.specs.declared.statement.LeafInstance.{LeafInstance}
use Rattle.fir_leaf.specs.declared.statement.LeafWhen.{LeafWhen, fold_out-LeafWhen}
use Rattle.fir_leaf.specs.declared.statement.LeafStmt.{fold-roll-LeafStmt}
use Rattle.fir_leaf.specs.declared.statement.LeafStmt.TheOpen.{LeafStmt-F}
use Rattle.fir_leaf.specs.declared.statement.LeafStmt.TheVariants as code
use Rattle.fir_meaning.specs.working.LeafBlocks.{LeafStatement, drive, when, instance}
use Rattle.fir_leaf.specs.working.Nodes.{entries, node_term, picks_at}
use Rattle.fir_leaf.specs.working.NodeBlocks.{block_in, statement_in, statement_step, when_step}

module _ (nodes : List Node) where
  pub drive_view : (d : Drive) → statement_in nodes (code.Drive d) ≡ drive d.place d.leaf (picks_at (entries nodes) d.picks) (node_term nodes d.given)
  drive_view d =
      ap (statement_in nodes) (sym (code.rolls-Drive d))
      ∙ fold-roll-LeafStmt LeafStatement LeafStatement (statement_step (entries nodes)) (when_step (entries nodes)) (LeafStmt-F.Drive d)

  pub instance_view : (i : LeafInstance)
      → statement_in nodes (code.Instance i) ≡ instance (record { declaration = i.declaration; module_number = i.module_number; first = i.first })
  instance_view i =
      ap (statement_in nodes) (sym (code.rolls-Instance i))
      ∙ fold-roll-LeafStmt LeafStatement LeafStatement (statement_step (entries nodes)) (when_step (entries nodes)) (LeafStmt-F.Instance i)

  pub when_view : (w : LeafWhen)
      → statement_in nodes (code.When w) ≡ when w.place (node_term nodes w.condition) (block_in nodes w.then_block.items) (block_in nodes w.else_block.items)
  when_view w =
      ap (statement_in nodes) (sym (code.rolls-When w))
      ∙ fold-roll-LeafStmt LeafStatement LeafStatement (statement_step (entries nodes)) (when_step (entries nodes)) (LeafStmt-F.When w)
      ∙ fold_out-LeafWhen LeafStatement LeafStatement (statement_step (entries nodes)) (when_step (entries nodes)) w
