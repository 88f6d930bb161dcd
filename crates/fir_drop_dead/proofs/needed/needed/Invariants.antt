use Rattle.fir_drop_dead.proofs.MarkedBehind.{Behind}
use Rattle.fir_drop_dead.proofs.needed.needed.Given as goal

abbrev pub invariant-loop-place : goal.invariant-loop-place
invariant-loop-place l = Behind l.net l.order l.place l.marks
