use Rattle.std.proofs.Common.{length}
use Rattle.fir_infer_resets.specs.working.DirectWalks.{ReplacesHead}
use Rattle.fir_infer_resets.proofs.direct.drop_detours.Given as goal

abbrev pub invariant-loop-kept : goal.invariant-loop-kept
invariant-loop-kept l = ReplacesHead l.ends l.next l.fn.kept.items l.kept.items

abbrev pub decreases-loop-kept : goal.decreases-loop-kept
decreases-loop-kept l = length l.kept.items
