use Rattle.fir_leaf_pairs.proofs.Driving.{drives_one}
use Rattle.fir_leaf_pairs.proofs.drive.drive.Goals as goal

pub returns : goal.returns
returns c =
    drives_one c.args.out.now.items c.push.new.self.items c.args.place c.args.target c.args.leaf c.args.given c.in-Some.base c.saturating_add.result
    c.in-Some.is
    c.saturating_add.ensures c.in_ok-push.ensures.items
