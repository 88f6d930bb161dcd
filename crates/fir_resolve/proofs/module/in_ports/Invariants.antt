use Rattle.std.proofs.Common.{List, map, drop}
use Rattle.fir_ast.specs.Statements.{PlacedName}
use Rattle.fir_ast.specs.working.Views.{port_of}
use Rattle.fir_meaning.specs.Visibility.{Before}
use Rattle.fir_resolve.specs.working.Scoped.{Walks}
use Rattle.fir_resolve.proofs.WalkedBlocks.{AtPorts}
use Rattle.fir_resolve.proofs.module.in_ports.Given as goal

abbrev pub invariant-loop-port : goal.invariant-loop-port
invariant-loop-port l =
    (modules : List PlacedName) (before : Before) → Walks modules l.initial.scope before
    → AtPorts modules l.initial.scope l.scope before (map port_of l.ports) (map port_of (drop l.port-index l.ports))
