use Rattle.std.proofs.Common.{List, Bool, map, ap, ◌∙◌}
use Rattle.std.proofs.lemmas.Iterator.{YieldsList-from_slice, YieldsList-from_zip}
use Rattle.std.proofs.lemmas.Iterator.Adapters.{YieldsList-from_vec}
use Rattle.std.proofs.lemmas.Iterator.Consumers.{YieldsList-end}
use Rattle.fir_net.specs.declared.leaf.Leaf.{Leaf}
use Rattle.fir_drop_dead.specs.working.Moved.{moved_leaf}
use Rattle.fir_drop_dead.proofs.KeptPairs.{kept_pairs, one_kept, one_left, pairs_zipped}
use Rattle.fir_drop_dead.proofs.kept_net.kept_leaves.Goals as goal

pub loop-leaf-preserved-in-Continue-1 : goal.loop-leaf-preserved-in-Continue-1
loop-leaf-preserved-in-Continue-1 c =
    one_kept (moved_leaf c.args.kept.now) c.loop-leaf.yielded c.in-Some.leaf c.in-Some.mark c.loop-leaf.moved.items c.push.new.self.items c.if-mark.true
    c.loop-leaf.invariant c.moved_leaf.result c.moved_leaf.ensures c.in_ok-push.ensures.items

pub loop-leaf-preserved : goal.loop-leaf-preserved
loop-leaf-preserved c = one_left (moved_leaf c.args.kept.now) c.loop-leaf.yielded c.in-Some.leaf c.in-Some.mark c.loop-leaf.moved.items c.if-mark.false c.loop-leaf.invariant

pub returns : goal.returns
returns c =
    let all =
    YieldsList-end
    (YieldsList-from_zip {s = c.into_iter-leaf-iterator.result} (YieldsList-from_vec c.args.leaves.items (cc) (cc)) (YieldsList-from_slice c.args.kept.now.leaves (cc)))
    c.loop-leaf.yielded c.loop-leaf.leaf-iterator c.loop-leaf.yielded_by c.next.result c.next.new.self c.in-None.is c.next.ensures.steps in
    c.loop-leaf.invariant ∙ ap (λ (ps : List (Leaf × Bool)). map (moved_leaf c.args.kept.now) (kept_pairs ps)) all.0
    ∙ ap (map (moved_leaf c.args.kept.now)) (pairs_zipped c.args.kept.now.leaves c.args.leaves.items)
