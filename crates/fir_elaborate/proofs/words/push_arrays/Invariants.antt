use Rattle.std.proofs.Common.{◌≡◌, ◌+◌, ◌-◌, ◌≤◌, ◌++◌}
use Rattle.fir_elaborate.specs.working.Walks.{array_numbers}
use Rattle.fir_elaborate.proofs.words.push_arrays.Given as goal

abbrev pub invariant-loop-array : goal.invariant-loop-array
invariant-loop-array l = record {
  low : l.from ≤ l.array;
  high : l.array ≤ l.from + (l.upto - l.from);
  numbers : l.order.items ≡ l.fn.order.items ++ array_numbers l.at l.arrays l.from l.array;
}
