use Rattle.std.proofs.Common.{◌++◌, drop}
use Rattle.fir_infer_resets.specs.working.DirectWalks.{IsDirect, Replaces}
use Rattle.fir_infer_resets.proofs.direct.without_detours.Given as goal

abbrev pub invariant-loop-number : goal.invariant-loop-number
invariant-loop-number l = record { replaces : Replaces l.ends l.walk (l.kept.items ++ drop l.number-index l.walk); direct : IsDirect l.ends l.kept.items }
