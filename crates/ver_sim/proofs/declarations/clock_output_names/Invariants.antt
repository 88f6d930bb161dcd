use Rattle.std.proofs.Common.{◌≡◌, ◌++◌, map, flat_map, drop}
use Rattle.ver_ast.specs.Nets.{output_clock, output_clocks}
use Rattle.ver_sim.proofs.declarations.clock_output_names.Given as goal

abbrev pub invariant-loop-port : goal.invariant-loop-port
invariant-loop-port l = map (λ n. n.now) l.names.items ++ flat_map (λ p. output_clock p.direction p) (drop l.port-index l.port-items) ≡ output_clocks l.v
