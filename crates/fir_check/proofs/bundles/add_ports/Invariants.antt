use Rattle.fir_check.proofs.PortBundles.{PortsMade}
use Rattle.fir_check.proofs.bundles.add_ports.Given as goal

abbrev pub invariant-loop-port : goal.invariant-loop-port
invariant-loop-port l = PortsMade l.initial.table l.table l.ports l.port-index l.parts.items
