use Rattle.std.proofs.Common.{List, drop, map}
use Rattle.fir_ast.specs.Circuits.{CircuitTree}
use Rattle.fir_ast.specs.working.Views.{port_of}
use Rattle.fir_meaning.specs.Visibility.{Before, behind_ports, declarations}
use Rattle.fir_types.specs.working.Walked.{Begins}
use Rattle.fir_ground.specs.working.DeclarationDrivers.{DriverMeant}
use Rattle.fir_leaf.specs.declared.node.Node.{Node}
use Rattle.fir_meaning.specs.ModuleScenes.{Scene}
use Rattle.fir_leaf_table.specs.working.Walks.{EntersAt}
use Rattle.fir_leaf_table.proofs.PortWalks.{AtPorts}
use Rattle.fir_leaf_table.proofs.ports.in_ports.Given as goal

abbrev pub invariant-loop-port : goal.invariant-loop-port
invariant-loop-port l =
    (c : CircuitTree) (s : Scene) (before : Before) (nodes : List Node) (rest : List DriverMeant)
    → EntersAt l.frame c s before nodes rest 0 l.initial.walk
    → Begins (behind_ports before (map port_of l.ports)).declared (declarations s.own.inside)
    → AtPorts s before nodes rest (map port_of l.ports) (map port_of (drop l.port-index l.ports)) l.initial.walk l.walk
