use Rattle.ver_runner.proofs.Rooms.{narrow_output}
use Rattle.ver_runner.proofs.shown.output_room.Goals as goal

pub of-requires-clause-narrow : goal.of-requires-clause-narrow
of-requires-clause-narrow c =
    narrow_output c.args.v.now c.requires c.as_slice-port-items.result.now c.loop-port.port-index c.port-item.result c.loop-port-test.true c.port-item.is c.as_slice-port-items.ensures
    c.if-not-port.true
