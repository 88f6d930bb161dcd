use Rattle.std.proofs.Common.{◌≡◌, drop}
use Rattle.ver_check.specs.ItemFaults.{Before}
use Rattle.ver_check.specs.TreeFaults.{behind_ports, ports_faults}
use Rattle.ver_check.specs.working.Walks.{Stands}
use Rattle.ver_check.proofs.walk.Walk.take_ports.Given as goal

abbrev pub invariant-loop-port : goal.invariant-loop-port
invariant-loop-port l =
    (before : Before) → Stands l.fn.self before
    → (now : Before) × Stands l.self now
    × (ports_faults before l.ports l.places ≡ ports_faults now (drop l.port-index l.ports) l.next)
    × (behind_ports before l.ports l.places ≡ behind_ports now (drop l.port-index l.ports) l.next)
