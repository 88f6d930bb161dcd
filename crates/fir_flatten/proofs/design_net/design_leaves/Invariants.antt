use Rattle.std.proofs.Common.{◌≡◌, ◌++◌, take}
use Rattle.std.specs.Prelude.{flat_map}
use Rattle.fir_flatten.specs.working.PutModules.{copy_leaves}
use Rattle.fir_flatten.proofs.design_net.design_leaves.Given as goal

abbrev pub invariant-loop-copy : goal.invariant-loop-copy
invariant-loop-copy l = l.leaves.items ≡ l.initial.leaves.items ++ flat_map (copy_leaves l.modules) (take l.copy-index l.copies)
