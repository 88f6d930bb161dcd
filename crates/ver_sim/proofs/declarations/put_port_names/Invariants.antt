use Rattle.std.proofs.Common.{◌≡◌, ◌++◌, map, flat_map, drop}
use Rattle.ver_ast.specs.Nets.{port_net, port_nets, names_of}
use Rattle.ver_sim.proofs.declarations.put_port_names.Given as goal

abbrev pub invariant-loop-port : goal.invariant-loop-port
invariant-loop-port l = map (λ n. n.now) l.names.items ++ names_of (flat_map port_net (drop l.port-index l.port-items)) ≡ map (λ n. n.now) l.initial.names.items ++ names_of (port_nets l.v)
