use Rattle.std.proofs.Common.{◌≡◌, []}
use Rattle.ver_ast.specs.declared.tree.Verilog.{Verilog}
use Rattle.ver_valid.specs.working.Walks.{Reflects}
use Rattle.ver_valid.proofs.Steps.{AmidPorts}
use Rattle.ver_valid.proofs.walk.Walk.take_ports.Given as goal

abbrev pub invariant-loop-port : goal.invariant-loop-port
invariant-loop-port l = (v : Verilog) → v.items ≡ [] → Reflects l.initial.self v → AmidPorts l.self v l.ports l.port-index
