use Rattle.std.proofs.Common.{ℕ, List, drop}
use Rattle.std.specs.Prelude.{◌↔◌}
use Rattle.std.specs.List.{AllByRecursion}
use Rattle.ver_valid.specs.working.Driven.{Drives}
use Rattle.ver_valid.specs.working.Walks.{IsPortDriven}
use Rattle.ver_valid.proofs.walk.ports_driven.Given as goal

abbrev pub invariant-loop-port : goal.invariant-loop-port
invariant-loop-port l =
    (ns : List (List ℕ)) → Drives l.assigned ns → AllByRecursion (IsPortDriven ns) (drop l.port-index l.ports) ↔ AllByRecursion (IsPortDriven ns) l.ports
