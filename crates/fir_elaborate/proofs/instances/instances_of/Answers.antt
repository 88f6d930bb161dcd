use Rattle.std.proofs.Common.{◌++◌, map, ap, ◌∙◌}
use Rattle.fir_leaf.specs.working.NodeBlocks.{block_in}
use Rattle.fir_elaborate.specs.working.OrderedModules.{instances_of}
use Rattle.fir_elaborate.specs.working.Walks.{held_seen}
use Rattle.fir_elaborate.proofs.instances.instances_of.Goals as goal

pub returns : goal.returns
returns c = λ nodes.
    c.in_ok-push_instances.ensures nodes ∙ ap (λ is. map held_seen is ++ instances_of (block_in nodes c.args.body.now)) c.new-found.ensures.items
