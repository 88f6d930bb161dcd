use Rattle.std.proofs.Common.{◌≡◌, ◌++◌, drop, flat_map}
use Rattle.fir_meaning.specs.LeafPaths.{step_text}
use Rattle.fir_infer_resets.specs.working.Holding.{path_of}
use Rattle.fir_infer_resets.proofs.path_text.put_steps.Given as goal

abbrev pub invariant-loop-step : goal.invariant-loop-step
invariant-loop-step l = l.out.items ++ flat_map step_text (path_of (drop l.step-index l.steps)) ≡ l.fn.out.items ++ flat_map step_text (path_of l.fn.steps)
