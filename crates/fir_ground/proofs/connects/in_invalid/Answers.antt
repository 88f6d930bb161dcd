use Rattle.fir_ast.specs.working.Views.{sink_of}
use Rattle.fir_leaf_pairs.specs.working.Drives.{sinks_in}
use Rattle.fir_ground.proofs.Connecting.{invalid_comes}
use Rattle.fir_ground.proofs.connects.in_invalid.Goals as goal

pub returns : goal.returns
returns c = λ typed r rest enters there.
    let f = c.args.frame.now in
    invalid_comes f.ground typed (sink_of c.args.sink.now) r rest c.args.walk.now c.in_reference.new.walk c.add.new.nodes c.args.out.now.items
    c.drive_zeros.new.out.items c.args.place c.in_ok-target.target c.in_ok-zeros.zeros f.sinks.now (sinks_in f.sinks.now) enters.stands.small there
    (c.in_ok-target.ensures typed r rest enters there) c.in_ok-zeros.ensures.place c.in_ok-zeros.ensures.added c.in_ok-drive_zeros.ensures
