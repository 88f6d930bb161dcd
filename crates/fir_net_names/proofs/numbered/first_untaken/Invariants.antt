use Rattle.std.proofs.Common.{◌≡◌, ℕ, ◌<◌, ◌≤◌, ◌++◌, true}
use Rattle.std.specs.Prelude.{decimal}
use Rattle.fir_net_names.specs.working.NameSets.{has}
use Rattle.fir_net_names.proofs.numbered.first_untaken.Given as goal

abbrev pub invariant-loop-number : goal.invariant-loop-number
invariant-loop-number l = (k : ℕ) → l.from ≤ k → k < l.number → has l.taken (l.front ++ decimal k) ≡ true
