use Rattle.fir_leaf_pairs.proofs.Driving.{drives_back}
use Rattle.fir_leaf_pairs.proofs.drive.drive_back.Goals as goal

pub returns : goal.returns
returns c =
    drives_back c.args.out.now.items c.drive.new.out.items c.args.place c.args.right c.in-Some.right c.args.gives_back.now c.args.pair c.in-Some-get.given.now
    c.in-Some.is c.in-Some-get.ensures.lookup.3.0 c.in-Some-get.ensures.lookup.1 c.in_ok-drive.ensures
