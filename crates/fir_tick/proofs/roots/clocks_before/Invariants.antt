use Rattle.std.proofs.Common.{◌≡◌, ◌≤◌, ◌++◌, drop}
use Rattle.fir_tick.specs.working.Roots.{clocks_before}
use Rattle.fir_tick.proofs.roots.clocks_before.Given as goal

abbrev pub invariant-loop-leaf : goal.invariant-loop-leaf
invariant-loop-leaf l = record {
  few : l.count ≤ l.leaf-index;
  rest : l.numbers.items ++ clocks_before l.count (drop l.leaf-index l.leaves) ≡ clocks_before 0 l.leaves;
}
