-- The leaves of a target, one after another.
use Rattle.std.specs.Prelude.{◌+◌, ℕ, zero, suc, ◌≤◌, List, [], ◌∷◌, Option, Some, None}
use Rattle.fir_meaning.specs.CostGroup.{cost_limit}
use Rattle.fir_meaning.specs.TypeLeaves.{leaf_count}
use Rattle.fir_meaning.specs.working.Targets.{Target}
use Rattle.fir_meaning.specs.working.Terms.{Picks, Term, read}

abbrev pub IsWithin : Option ℕ → ℕ → Type 0
IsWithin None n = Unit {0}
IsWithin (Some b) n = b + n ≤ cost_limit

-- there are no more leaves up to its last than a circuit may cost
abbrev pub IsWithinCost : Target → Type 0
IsWithinCost r = IsWithin r.base (leaf_count r.data_type)

-- so many from a number on
unfoldable pub reads_from : ℕ → ℕ → Picks → List Term
reads_from b zero ps = []
reads_from b (suc n) ps = read b ps ∷ reads_from (b + 1) n ps
