use Rattle.std.proofs.Common.{◌≡◌, [], ◌∷◌, map, take}
use Rattle.fir_sim_tests.proofs.nets.net.Given as goal

abbrev pub invariant-loop-name : goal.invariant-loop-name
invariant-loop-name l = l.leaves.items ≡ map (λ t. record { path = t.0 ∷ []; place = record { line = 1; col = 1 }; signed = t.1; width = t.2; role = t.3 }) (take l.name-index l.rows)
