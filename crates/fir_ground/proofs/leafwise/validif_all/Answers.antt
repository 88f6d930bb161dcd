use Rattle.std.proofs.Common.{refl}
use Rattle.fir_leaf_pairs.proofs.Giving.{validif_more}
use Rattle.fir_ground.proofs.leafwise.validif_all.Goals as goal

pub loop-value-preserved : goal.loop-value-preserved
loop-value-preserved c =
    λ lc bx.
    validif_more c.args.nodes.now.items c.loop-value.nodes.items c.add.new.nodes.items c.args.condition c.in_ok-id.id c.loop-value.value-index _ 0 c.args.values.now
    c.loop-value.ids.items c.push.new.self.items c.loop-value-test.true refl lc bx (c.loop-value.invariant lc bx) c.in_ok-id.ensures.place c.in_ok-id.ensures.added
    c.in_ok-push.ensures.items
