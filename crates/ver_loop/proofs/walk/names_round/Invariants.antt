use Rattle.std.proofs.Common.{◌≡◌, ◌++◌, map, drop}
use Rattle.ver_loop.specs.working.Rounds.{named}
use Rattle.ver_loop.proofs.walk.names_round.Given as goal

abbrev pub invariant-loop-number : goal.invariant-loop-number
invariant-loop-number l =
    l.walk.items ++ named (map (λ n. n.now) l.names) (drop l.number-index l.circle) ≡ named (map (λ n. n.now) l.names) l.circle
