use Rattle.std.proofs.Common.{◌≡◌, ◌++◌, flat_map, drop}
use Rattle.ver_ast.specs.Nets.{input_net, input_nets, widths_of}
use Rattle.ver_sim.proofs.traces.input_widths.Given as goal

abbrev pub invariant-loop-port : goal.invariant-loop-port
invariant-loop-port l = l.widths.items ++ widths_of (flat_map (λ p. input_net p.direction p) (drop l.port-index l.port-items)) ≡ widths_of (input_nets l.v)
