use Rattle.std.proofs.Common.{◌≡◌, ℕ}
use Rattle.fir_type_table.specs.working.Saturated.{saturated}
use Rattle.fir_expand.proofs.SaturatedSums.{ProductSoFar}
use Rattle.fir_expand.proofs.found_leaves.times_picked.Given as goal

abbrev pub invariant-loop-pick : goal.invariant-loop-pick
invariant-loop-pick l = (n : ℕ) → l.number ≡ saturated n → ProductSoFar l.picks l.pick-index l.product n
