use Rattle.std.proofs.Common.{◌≡◌, [], ◌∷◌, false, map, take}
use Rattle.fir_sim_tests.proofs.init_nets.net.Given as goal

abbrev pub invariant-loop-name : goal.invariant-loop-name
invariant-loop-name l = l.leaves.items ≡ map (λ t. record { path = t.0 ∷ []; place = record { line = t.1; col = 1 }; signed = false; width = t.2; role = t.3 }) (take l.name-index l.rows)
