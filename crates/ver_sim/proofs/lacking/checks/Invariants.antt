use Rattle.std.proofs.Common.{take}
use Rattle.ver_sim.specs.working.Checks.{AreChecks}
use Rattle.ver_sim.proofs.lacking.checks.Given as goal

abbrev pub invariant-loop-i : goal.invariant-loop-i
invariant-loop-i l = AreChecks l.v l.found.items (take l.i l.v.items)
