use Rattle.fir_leaf_pairs.proofs.Driving.{pair_straight}
use Rattle.fir_leaf_pairs.proofs.drive.drive_pair.Goals as goal

pub returns : goal.returns
returns c =
    pair_straight c.args.out.now.items c.drive.new.out.items c.args.place c.args.left c.args.right c.args.gives.now c.args.gives_back.now c.args.pair
    c.in-Some.given.now c.if-pair.false c.in-Some.ensures.lookup.3.0 c.in-Some.ensures.lookup.1 c.in_ok-drive.ensures
