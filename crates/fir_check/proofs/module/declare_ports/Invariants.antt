use Rattle.std.proofs.Common.{map, take}
use Rattle.fir_ast.specs.working.Views.{port_of}
use Rattle.fir_types.specs.working.Walked.{PassesPorts}
use Rattle.fir_check.proofs.module.declare_ports.Given as goal

abbrev pub invariant-loop-port : goal.invariant-loop-port
invariant-loop-port l = PassesPorts l.initial.scope l.scope (map port_of (take l.port-index l.ports))
