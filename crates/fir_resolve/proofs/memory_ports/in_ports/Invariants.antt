use Rattle.std.proofs.Common.{◌≡◌, List, ◌++◌, map, drop}
use Rattle.fir_ast.specs.Statements.{PlacedName}
use Rattle.fir_ast.specs.working.Views.{named_of}
use Rattle.fir_meaning.specs.Mentions.{port_mentions}
use Rattle.fir_resolve.specs.working.Namespaces.{Holds}
use Rattle.fir_resolve.proofs.WalkedNames.{At}
use Rattle.fir_resolve.proofs.memory_ports.in_ports.Given as goal

abbrev pub invariant-loop-port : goal.invariant-loop-port
invariant-loop-port l =
    (start : List PlacedName) → Holds l.initial.namespace start
    → (at : At port_mentions l.namespace start (map named_of l.ports) (map named_of (drop l.port-index l.ports)))
    × (at.before ++ map named_of (drop l.port-index l.ports) ≡ start ++ map named_of l.ports)
