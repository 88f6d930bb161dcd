use Rattle.std.proofs.Common.{◌≡◌, ◌++◌, map, flat_map, drop}
use Rattle.ver_ast.specs.Nets.{input_clock, clocks}
use Rattle.ver_sim.proofs.declarations.put_clock_names.Given as goal

abbrev pub invariant-loop-port : goal.invariant-loop-port
invariant-loop-port l = map (λ n. n.now) l.names.items ++ flat_map (λ p. input_clock p.direction p) (drop l.port-index l.port-items) ≡ map (λ n. n.now) l.initial.names.items ++ clocks l.v
