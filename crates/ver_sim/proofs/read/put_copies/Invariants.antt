use Rattle.std.proofs.Common.{◌≡◌, ◌-◌, ◌++◌}
use Rattle.ver_sim.specs.working.Pieces.{copied_pieces}
use Rattle.ver_sim.proofs.read.put_copies.Given as goal

abbrev pub invariant-loop : goal.invariant-loop
invariant-loop l = l.out.items ++ copied_pieces (l.count - l.counter) l.part ≡ l.initial.out.items ++ copied_pieces l.count l.part
