use Rattle.std.proofs.Common.{◌≡◌, ◌-◌, ◌≤◌, ◌++◌, drop}
use Rattle.fir_leaf_pairs.specs.working.Pairing.{copies}
use Rattle.fir_leaf_pairs.proofs.pairs.repeat_pairs.Given as goal

abbrev pub invariant-loop-i : goal.invariant-loop-i
invariant-loop-i l = record {
  are : l.pairs.items ≡ l.fn.pairs.items ++ copies 1 (l.i - 1) l.each l.other (drop l.start l.fn.pairs.items);
  far : l.i - 1 ≤ l.count - 1;
}
