use Rattle.std.proofs.Common.{◌≡◌, drop}
use Rattle.fir_tick.specs.working.Passes.{with_inputs}
use Rattle.fir_tick.proofs.passes.put_inputs.Given as goal

abbrev pub invariant-loop-j : goal.invariant-loop-j
invariant-loop-j l = with_inputs (drop l.j l.plans) (drop l.j l.values) l.numbers ≡ with_inputs l.plans l.values l.initial.numbers
