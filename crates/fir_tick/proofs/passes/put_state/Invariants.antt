use Rattle.std.proofs.Common.{◌≡◌, drop}
use Rattle.fir_tick.specs.working.Passes.{with_state}
use Rattle.fir_tick.proofs.passes.put_state.Given as goal

abbrev pub invariant-loop-j : goal.invariant-loop-j
invariant-loop-j l = with_state (drop l.j l.plans) (drop l.j l.state) l.numbers ≡ with_state l.plans l.state l.initial.numbers
