use Rattle.fir_check.proofs.PortBundles.{bundles_pushed}
use Rattle.fir_check.proofs.bundles.add_bundles.Goals as goal

pub loop-part-preserved : goal.loop-part-preserved
loop-part-preserved c =
    bundles_pushed c.loop-part.table c.add_ports.new.table c.args.modules.now c.loop-part.part-index c.part-item.result c.deref.result.now
    c.loop-part.bundles.items c.push.new.self.items c.in_ok-add_ports.field-0 c.loop-part-test.true c.part-item.is c.deref.ensures.value
    c.loop-part.invariant c.in_ok-add_ports.ensures c.in_ok-push.ensures.items
