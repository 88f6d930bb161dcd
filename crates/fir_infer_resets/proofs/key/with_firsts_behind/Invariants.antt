use Rattle.std.proofs.Common.{◌≡◌, ◌++◌, drop, map}
use Rattle.fir_reset.specs.working.ElementPaths.{any_element, firsts_behind}
use Rattle.fir_infer_resets.specs.working.Holding.{path_of}
use Rattle.fir_infer_resets.proofs.key.with_firsts_behind.Given as goal

abbrev pub invariant-loop-step : goal.invariant-loop-step
invariant-loop-step l = path_of l.steps.items ++ map any_element (path_of (drop l.step-index (drop l.kept l.path))) ≡ firsts_behind l.kept (path_of l.path)
