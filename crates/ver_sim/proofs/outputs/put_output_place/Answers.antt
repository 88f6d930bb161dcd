use Rattle.ver_sim.proofs.PlannedNets.{output_put}
use Rattle.ver_sim.proofs.outputs.put_output_place.Goals as goal

pub returns-in_ok-push : goal.returns-in_ok-push
returns-in_ok-push c v k m =
    output_put v c.args.tables.now k c.args.port.now c.place.result c.args.out.now.items c.push.new.self.items c.in-Output.is c.if-not-port.true m c.place.ensures c.in_ok-push.ensures.items
