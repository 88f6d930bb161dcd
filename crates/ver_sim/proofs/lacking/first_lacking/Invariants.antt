use Rattle.std.proofs.Common.{◌≡◌, drop}
use Rattle.ver_sim.specs.working.Lacking.{lacking_place}
use Rattle.ver_sim.proofs.lacking.first_lacking.Given as goal

abbrev pub invariant-loop-check : goal.invariant-loop-check
invariant-loop-check l = lacking_place l.state l.named l.values (drop l.check-index l.checks) ≡ lacking_place l.state l.named l.values l.checks
