use Rattle.std.proofs.Common.{◌≡◌, ◌-◌, ◌≤◌, ◌++◌, drop}
use Rattle.fir_meaning.specs.HeldTypes.{repeated}
use Rattle.fir_leaf_table.proofs.push_leaves.repeat.Given as goal

abbrev pub invariant-loop : goal.invariant-loop
invariant-loop l = record {
  are : l.leaves.items ≡ l.fn.leaves.items ++ repeated (l.counter - 1) (drop l.start l.fn.leaves.items);
  far : l.counter - 1 ≤ l.count - 1;
}
