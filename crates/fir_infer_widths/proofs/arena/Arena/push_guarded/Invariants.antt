use Rattle.fir_infer_widths.proofs.EachPushed.{GuardedPushed}
use Rattle.fir_infer_widths.proofs.arena.Arena.push_guarded.Given as goal

abbrev pub invariant-loop-i : goal.invariant-loop-i
invariant-loop-i l = GuardedPushed l.initial.self l.self l.condition l.one l.count l.i
