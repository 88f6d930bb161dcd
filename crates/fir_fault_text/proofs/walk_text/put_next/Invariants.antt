use Rattle.std.proofs.Common.{◌≡◌, ◌++◌, flat_map, map, take}
use Rattle.fir_fault_text.proofs.walk_text.put_next.Given as goal

abbrev pub invariant-loop-step : goal.invariant-loop-step
invariant-loop-step g l = l.out.items ≡ l.initial.out.items ++ flat_map (λ next. l.separator ++ next) (map g.T.Text.text (take l.step-index l.steps))
