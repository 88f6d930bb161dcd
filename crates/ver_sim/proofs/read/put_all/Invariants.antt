use Rattle.std.proofs.Common.{◌≡◌, ◌++◌, drop}
use Rattle.ver_sim.proofs.read.put_all.Given as goal

abbrev pub invariant-loop-piece : goal.invariant-loop-piece
invariant-loop-piece l = l.out.items ++ drop l.piece-index l.part ≡ l.initial.out.items ++ l.part
