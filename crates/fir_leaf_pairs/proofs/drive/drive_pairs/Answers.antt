use Rattle.fir_leaf_pairs.proofs.Driving.{pairs_more, pairs_all}
use Rattle.std.proofs.Common.{refl}
use Rattle.fir_leaf_pairs.proofs.drive.drive_pairs.Goals as goal

pub loop-pair-preserved : goal.loop-pair-preserved
loop-pair-preserved c =
    pairs_more c.args.out.now.items c.loop-pair.out.items c.drive_pair.new.out.items c.args.place c.args.left c.args.right c.args.gives.now
    c.args.gives_back.now
    c.args.pairs.now c.loop-pair.pair-index _ _ c.loop-pair-test.true refl c.loop-pair.invariant c.in_ok-drive_pair.ensures

pub returns : goal.returns
returns c =
    pairs_all c.args.out.now.items c.loop-pair.out.items c.args.place c.args.left c.args.right c.args.gives.now c.args.gives_back.now c.args.pairs.now
    c.loop-pair.pair-index c.loop-pair-test.false c.loop-pair.invariant
