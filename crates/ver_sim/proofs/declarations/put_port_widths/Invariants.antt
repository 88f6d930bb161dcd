use Rattle.std.proofs.Common.{◌≡◌, ◌++◌, flat_map, drop}
use Rattle.ver_ast.specs.Nets.{port_net, port_nets, widths_of}
use Rattle.ver_sim.proofs.declarations.put_port_widths.Given as goal

abbrev pub invariant-loop-port : goal.invariant-loop-port
invariant-loop-port l = l.widths.items ++ widths_of (flat_map port_net (drop l.port-index l.port-items)) ≡ l.initial.widths.items ++ widths_of (port_nets l.v)
