use Rattle.fir_clock_root.proofs.RootWalks.{IsAfter}
use Rattle.fir_clock_root.proofs.root.clock_root.Given as goal

abbrev pub invariant-loop-step : goal.invariant-loop-step
invariant-loop-step l = IsAfter l.net l.fn.leaf l._step l.end
