use Rattle.std.proofs.Common.{◌-◌, length}
use Rattle.fir_infer_resets.specs.working.Reaching.{Searching}
use Rattle.fir_infer_resets.proofs.search.find_resets.Given as goal

abbrev pub invariant-loop-place : goal.invariant-loop-place
invariant-loop-place l = Searching l.graph l.kinds l.reached l.place

abbrev pub decreases-loop-place : goal.decreases-loop-place
decreases-loop-place l = length l.kinds - l.place
