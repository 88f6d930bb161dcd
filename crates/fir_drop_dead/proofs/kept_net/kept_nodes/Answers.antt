use Rattle.std.proofs.Common.{List, Bool, map, ap, ◌∙◌}
use Rattle.std.proofs.lemmas.Iterator.{YieldsList-from_slice, YieldsList-from_zip}
use Rattle.std.proofs.lemmas.Iterator.Adapters.{YieldsList-from_vec}
use Rattle.std.proofs.lemmas.Iterator.Consumers.{YieldsList-end}
use Rattle.fir_net.specs.declared.node.Node.{Node}
use Rattle.fir_drop_dead.specs.working.Moved.{moved_node}
use Rattle.fir_drop_dead.proofs.KeptPairs.{kept_pairs, one_kept, one_left, pairs_zipped}
use Rattle.fir_drop_dead.proofs.kept_net.kept_nodes.Goals as goal

pub loop-node-preserved-in_ok-push : goal.loop-node-preserved-in_ok-push
loop-node-preserved-in_ok-push c =
    one_kept (moved_node c.args.kept.now) c.loop-node.yielded c.in-Some.node c.in-Some.mark c.loop-node.moved.items c.push.new.self.items c.if-mark.true
    c.loop-node.invariant c.in_ok-moved_node.field-0 c.in_ok-moved_node.ensures c.in_ok-push.ensures.items

pub loop-node-preserved-else-mark : goal.loop-node-preserved-else-mark
loop-node-preserved-else-mark c = one_left (moved_node c.args.kept.now) c.loop-node.yielded c.in-Some.node c.in-Some.mark c.loop-node.moved.items c.if-mark.false c.loop-node.invariant

pub loop-node-preserved : goal.loop-node-preserved
loop-node-preserved c = one_left (moved_node c.args.kept.now) c.loop-node.yielded c.in-Some.node c.in-Some.mark c.loop-node.moved.items c.if-mark.false c.loop-node.invariant

pub returns : goal.returns
returns c =
    let all =
    YieldsList-end
    (YieldsList-from_zip {s = c.into_iter-node-iterator.result} (YieldsList-from_vec c.args.nodes.items (cc) (cc)) (YieldsList-from_slice c.args.kept.now.nodes (cc)))
    c.loop-node.yielded c.loop-node.node-iterator c.loop-node.yielded_by c.next.result c.next.new.self c.in-None.is c.next.ensures.steps in
    c.loop-node.invariant ∙ ap (λ (ps : List (Node × Bool)). map (moved_node c.args.kept.now) (kept_pairs ps)) all.0
    ∙ ap (map (moved_node c.args.kept.now)) (pairs_zipped c.args.kept.now.nodes c.args.nodes.items)
