-- The steps that are left after a mark was set.
use Rattle.std.proofs.Common.{◌≡◌, ℕ, zero, suc, ◌+◌, List, [], ◌∷◌, Some, length, set, arith}
use Rattle.std.specs.Prelude.{slice_get}
use Rattle.std.proofs.lemmas.Option.{none-some, same_Some}
use Rattle.fir_graph.specs.declared.marks.Mark.{Mark}
use Rattle.fir_graph.specs.working.Searched.{steps_at, steps_from, steps_left}

from_change : (targets : ℕ → List ℕ) (k : ℕ) (ms : List Mark) (i j : ℕ) (m n : Mark) → j ≡ k + i → slice_get ms i ≡ Some m → steps_from targets k (set ms i n) + steps_at (length (targets j)) m ≡ steps_from targets k ms + steps_at (length (targets j)) n
from_change targets k [] i j m n e at = absurd (none-some m at)
from_change targets k (x ∷ xs) zero j m n e at = let here : j ≡ k = omega arith in rw (here, same_Some x m at) (omega arith)
from_change targets k (x ∷ xs) (suc i) j m n e at = omega (arith, from_change targets (suc k) xs i j m n (omega arith) at)

-- a mark that changes takes its steps with it
pub steps_change : (targets : ℕ → List ℕ) (marks : List Mark) (v : ℕ) (m n : Mark) → slice_get marks v ≡ Some m → steps_left targets (set marks v n) + steps_at (length (targets v)) m ≡ steps_left targets marks + steps_at (length (targets v)) n
unfolding steps_left
steps_change targets marks v m n at = from_change targets 0 marks v v m n (omega arith) at
