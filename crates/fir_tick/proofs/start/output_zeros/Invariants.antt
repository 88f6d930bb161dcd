use Rattle.std.proofs.Common.{◌≡◌, map, take}
use Rattle.fir_tick.specs.working.Passes.{output_zero}
use Rattle.fir_tick.proofs.start.output_zeros.Given as goal

abbrev pub invariant-loop-plan : goal.invariant-loop-plan
invariant-loop-plan l = l.zeros.items ≡ map output_zero (take l.plan-index l.plans)
