use Rattle.std.proofs.Common.{◌≡◌, ◌++◌, map, flat_map, drop}
use Rattle.ver_ast.specs.Nets.{input_net, input_nets, names_of}
use Rattle.ver_valid.proofs.processes.input_names.Given as goal

abbrev pub invariant-loop-port : goal.invariant-loop-port
invariant-loop-port l = map (λ n. n.now) l.names.items ++ names_of (flat_map (λ p. input_net p.direction p) (drop l.port-index l.port-items)) ≡ names_of (input_nets l.v)
