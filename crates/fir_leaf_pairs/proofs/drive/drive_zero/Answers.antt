use Rattle.fir_leaf_pairs.proofs.Driving.{zero_driven}
use Rattle.fir_leaf_pairs.proofs.drive.drive_zero.Goals as goal

pub returns-then-is_sink : goal.returns-then-is_sink
returns-then-is_sink c =
    zero_driven c.args.out.now.items c.drive.new.out.items c.args.place c.args.target c.args.leaf c.args.zeros c.args.sinks.now c.in-Some.base
    c.saturating_add.result c.is_sink.result c.in-Some.is c.saturating_add.ensures c.is_sink.ensures c.if-is_sink.true c.in_ok-drive.ensures
