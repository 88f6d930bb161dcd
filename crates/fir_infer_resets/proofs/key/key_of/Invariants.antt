use Rattle.std.proofs.Common.{◌≡◌, ◌++◌, drop, flat_map}
use Rattle.fir_infer_resets.specs.working.Holding.{path_of}
use Rattle.fir_infer_resets.specs.working.PathKeys.{path_key, step_key}
use Rattle.fir_infer_resets.proofs.key.key_of.Given as goal

abbrev pub invariant-loop-step : goal.invariant-loop-step
invariant-loop-step l = l.key.items ++ flat_map step_key (path_of (drop l.step-index l.path)) ≡ path_key l.module_number (path_of l.path)
