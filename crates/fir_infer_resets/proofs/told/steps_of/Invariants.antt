use Rattle.std.proofs.Common.{◌≡◌, ◌++◌, drop, map}
use Rattle.fir_ast.specs.working.CodeFaults.{reset_step_text}
use Rattle.fir_infer_resets.specs.working.StepTexts.{text_at}
use Rattle.fir_infer_resets.proofs.told.steps_of.Given as goal

abbrev pub invariant-loop-number : goal.invariant-loop-number
invariant-loop-number l = map reset_step_text l.steps.items ++ map (text_at l.ends) (drop l.number-index l.walk) ≡ map (text_at l.ends) l.walk
