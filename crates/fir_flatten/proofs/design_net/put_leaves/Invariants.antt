use Rattle.std.proofs.Common.{◌≡◌, ◌++◌, ◌≤◌, max}
use Rattle.fir_flatten.specs.working.PutModules.{part_leaves}
use Rattle.fir_flatten.proofs.design_net.put_leaves.Given as goal

abbrev pub invariant-loop-leaf : goal.invariant-loop-leaf
invariant-loop-leaf l = record {
  within : l.leaf ≤ max l.from l.to;
  are : l.leaves.items ≡ l.fn.leaves.items ++ part_leaves l.prefix l.module l.from l.leaf;
}
