use Rattle.std.proofs.Common.{◌≡◌, ◌≤◌, ◌++◌, drop}
use Rattle.std.specs.Prelude.{flat_map}
use Rattle.ver_ast.specs.Nets.{input_clock, clocks}
use Rattle.ver_sim.specs.working.Start.{clock_numbers}
use Rattle.ver_sim.proofs.start.put_clock_numbers.Given as goal

abbrev pub invariant-loop-port : goal.invariant-loop-port
invariant-loop-port l = record {
  numbers : l.values.items ++ clock_numbers l.number (flat_map (λ p. input_clock p.direction p) (drop l.port-index l.port-items)) ≡ l.initial.values.items ++ clock_numbers 0 (clocks l.v);
  few : l.number ≤ l.port-index;
}
