use Rattle.ver_sim.proofs.PlannedNets.{input_put}
use Rattle.ver_sim.proofs.inputs.put_input_place.Goals as goal

pub returns-in_ok-push : goal.returns-in_ok-push
returns-in_ok-push c v k m =
    input_put v c.args.tables.now k c.args.port.now c.place.result c.args.out.now.items c.push.new.self.items c.in-Input.is c.if-not-port.true m c.place.ensures c.in_ok-push.ensures.items
