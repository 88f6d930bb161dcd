use Rattle.fir_infer_widths.proofs.EachPushed.{GreaterPushed}
use Rattle.fir_infer_widths.proofs.arena.Arena.push_greater.Given as goal

abbrev pub invariant-loop-i : goal.invariant-loop-i
invariant-loop-i l = GreaterPushed l.initial.self l.self l.one l.other l.count l.i
