use Rattle.std.proofs.Common.{List, map, drop}
use Rattle.fir_ast.specs.Circuits.{CircuitTree}
use Rattle.fir_ast.specs.working.Views.{port_of}
use Rattle.fir_meaning.specs.Visibility.{Before, behind_ports, declarations}
use Rattle.fir_meaning.specs.SizedDeclarations.{NumberedModule}
use Rattle.fir_meaning.specs.WidthExpressions.{Rule, Width}
use Rattle.fir_types.specs.working.Notes.{Note}
use Rattle.fir_types.specs.working.Walked.{Begins}
use Rattle.fir_infer_widths.specs.working.Walks.{EntersAt}
use Rattle.fir_infer_widths.proofs.PortWalks.{AtPorts}
use Rattle.fir_infer_widths.proofs.module.in_ports.Given as goal

abbrev pub invariant-loop-port : goal.invariant-loop-port
invariant-loop-port l =
    (c : CircuitTree) (m : NumberedModule) (before : Before) (meant : List Width) (rules : List Rule) (rest : List Note) → EntersAt c l.ground m before meant rules rest l.initial.walk
    → Begins (behind_ports before (map port_of l.ports)).declared (declarations m.inside)
    → AtPorts c l.ground m before meant rules rest (map port_of l.ports) (map port_of (drop l.port-index l.ports)) l.initial.walk l.walk
