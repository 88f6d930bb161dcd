use Rattle.std.proofs.Common.{◌≡◌, ◌++◌, flat_map, take}
use Rattle.fir_ast.specs.Texts.{outcome_text}
use Rattle.fir_fault_text.proofs.walk_text.put_choice.Given as goal

abbrev pub invariant-loop-outcome : goal.invariant-loop-outcome
invariant-loop-outcome l = l.out.items ≡ l.initial.out.items ++ flat_map outcome_text (take l.outcome-index l.choice)
