use Rattle.std.proofs.Common.{map, take}
use Rattle.ver_sim.specs.working.Names.{IsNumbering}
use Rattle.ver_sim.proofs.names.Numbers.new.Given as goal

abbrev pub invariant-loop-i : goal.invariant-loop-i
invariant-loop-i l = IsNumbering (map (λ n. n.now) (take l.i l.names)) l.numbers
