use Rattle.std.proofs.Common.{◌≡◌, ◌≤◌, ◌+◌, length, flat_map, drop}
use Rattle.ver_ast.specs.Nets.{input_clock, clocks}
use Rattle.ver_sim.proofs.traces.clock_count.Given as goal

abbrev pub invariant-loop-port : goal.invariant-loop-port
invariant-loop-port l = record {
  counted : l.count + length (flat_map (λ p. input_clock p.direction p) (drop l.port-index l.port-items)) ≡ length (clocks l.v);
  few : l.count ≤ l.port-index;
}
