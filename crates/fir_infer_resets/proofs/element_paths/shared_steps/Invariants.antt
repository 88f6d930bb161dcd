use Rattle.std.proofs.Common.{length, ◌-◌}
use Rattle.fir_infer_resets.specs.working.DirectWalks.{SharesFirst}
use Rattle.fir_infer_resets.proofs.element_paths.shared_steps.Given as goal

abbrev pub invariant-loop-shared : goal.invariant-loop-shared
invariant-loop-shared l = SharesFirst l.one l.other l.shared

abbrev pub decreases-loop-shared : goal.decreases-loop-shared
decreases-loop-shared l = length l.one - l.shared
