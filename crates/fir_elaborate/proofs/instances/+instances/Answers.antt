use Rattle.std.proofs.Common.{◌≡◌, ◌++◌, List, map, ap, ◌∙◌, append_assoc}
use Rattle.std.proofs.lemmas.List.{take_all}
use Rattle.std.proofs.lemmas.Result.{on_ok_weaker}
use Rattle.fir_leaf.specs.declared.node.Node.{Node}
use Rattle.fir_leaf.specs.declared.statement.LeafStmt.{LeafStmt}
use Rattle.fir_leaf.specs.working.NodeBlocks.{block_in}
use Rattle.fir_driven.proofs.LeafViews.{when_view}
use Rattle.fir_elaborate.specs.working.OrderedModules.{instances_of}
use Rattle.fir_elaborate.specs.working.Walks.{held_seen}
use Rattle.fir_elaborate.proofs.HeldBlocks.{held_more, held_one}
use Rattle.fir_elaborate.proofs.instances.+instances.Goals as goal

pub push_instances-loop-statement-preserved : goal.push_instances-loop-statement-preserved
push_instances-loop-statement-preserved t c = λ nodes.
    held_more nodes c.args.body.now c.loop-statement.statement-index _ _ _ _ c.loop-statement-test.true c.statement-item.is
    (c.loop-statement.invariant nodes) (c.in_ok-push_instances_of.ensures nodes)

pub push_instances-returns : goal.push_instances-returns
push_instances-returns t c = λ nodes.
    c.loop-statement.invariant nodes
    ∙ ap (λ ss. map held_seen c.args.found.now.items ++ instances_of (block_in nodes ss))
    (take_all c.loop-statement.statement-index c.args.body.now c.loop-statement-test.false)

pub push_instances_of-returns-in_ok-push_instances-in-When : goal.push_instances_of-returns-in_ok-push_instances-in-When
push_instances_of-returns-in_ok-push_instances-in-When t c =
    let w = c.in-When.when in
    let before = map held_seen c.args.found.now.items in
    let between = map held_seen c.push_instances.new.found.items in
    let after = map held_seen c.push_instances-in-When.new.found.items in
    let block = λ (nodes : List Node) (ss : List LeafStmt). instances_of (block_in nodes ss) in
    let one : (nodes : List Node) → between ≡ before ++ block nodes w.then_block.items =
    rw c.deref.ensures.value at c.in_ok-push_instances-in-When.ensures in
    on_ok_weaker {P = (nodes : List Node) → after ≡ between ++ block nodes w.else_block.items} c.push_instances-in-When.result
    (λ two nodes.
    rw (c.in-When.is, when_view nodes w)
    (two nodes ∙ ap (λ z. z ++ block nodes w.else_block.items) (one nodes)
    ∙ append_assoc before (block nodes w.then_block.items) (block nodes w.else_block.items)))
    (rw c.deref-in-When.ensures.value at c.push_instances-in-When.ensures)

pub push_instances_of-returns-in_ok-push-in-Instance : goal.push_instances_of-returns-in_ok-push-in-Instance
push_instances_of-returns-in_ok-push-in-Instance t c = λ nodes.
    rw c.in-Instance.is (held_one nodes c.in-Instance.instance _ _ c.in_ok-push-in-Instance.ensures.items)
