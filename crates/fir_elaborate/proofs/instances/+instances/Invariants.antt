use Rattle.std.proofs.Common.{◌≡◌, ◌++◌, List, map, take}
use Rattle.fir_leaf.specs.declared.node.Node.{Node}
use Rattle.fir_leaf.specs.working.NodeBlocks.{block_in}
use Rattle.fir_elaborate.specs.working.OrderedModules.{instances_of}
use Rattle.fir_elaborate.specs.working.Walks.{held_seen}
use Rattle.fir_elaborate.proofs.instances.+instances.Given as goal

abbrev pub invariant-push_instances-loop-statement : goal.invariant-push_instances-loop-statement
invariant-push_instances-loop-statement l =
    (nodes : List Node) → map held_seen l.found.items ≡ map held_seen l.fn.found.items ++ instances_of (block_in nodes (take l.statement-index l.body))
