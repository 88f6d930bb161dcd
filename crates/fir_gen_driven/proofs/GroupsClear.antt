-- The groups from the drivers to the loops, by their numbers.
use Rattle.std.proofs.Common.{◌≡◌, ℕ, zero, suc, ◌+◌, ◌-◌, ◌≤◌, arith, subst}
use Rattle.fir_ast.specs.declared.place.Place.{Place}
use Rattle.fir_pass.specs.Groups.{IsClear}
use Rattle.fir_meaning.specs.SourceMeaning.{circuit_meaning}
use Rattle.fir_gen.specs.working.GenTree.{gen_tree}
use Rattle.fir_gen_driven.proofs.DriversClear.{drivers_clear}
use Rattle.fir_gen_driven.proofs.ClocksClear.{clocks_clear}
use Rattle.fir_gen_driven.proofs.MemoryClocksClear.{memory_clocks_clear}
use Rattle.fir_gen_driven.proofs.InitsClear.{inits_clear}
use Rattle.fir_gen_driven.proofs.LoopsClear.{loops_clear}

-- the numbers of the groups
from_nine : (P : ℕ → Type 0) → P 9 → P 10 → P 11 → P 12 → P 13 → (k : ℕ) → k ≤ 4 → P (9 + k)
from_nine P a b c d e zero few = a
from_nine P a b c d e (suc zero) few = b
from_nine P a b c d e (suc (suc zero)) few = c
from_nine P a b c d e (suc (suc (suc zero))) few = d
from_nine P a b c d e (suc (suc (suc (suc zero)))) few = e
from_nine P a b c d e (suc (suc (suc (suc (suc k))))) few = absurd (omega arith)

among_five : (P : ℕ → Type 0) → P 9 → P 10 → P 11 → P 12 → P 13 → (k : ℕ) → 9 ≤ k → k ≤ 13 → P k
among_five P a b c d e k low high =
    let is : 9 + (k - 9) ≡ k = omega arith in
    let few : k - 9 ≤ 4 = omega arith in
    subst P is (from_nine P a b c d e (k - 9) few)

pub groups_clear : (at : ℕ → ℕ → Place) (n k : ℕ) → 9 ≤ k → k ≤ 13 → IsClear ((circuit_meaning (gen_tree at n)).group k)
unfolding circuit_meaning
groups_clear at n =
    among_five (λ k. IsClear ((circuit_meaning (gen_tree at n)).group k)) (drivers_clear at n) (clocks_clear at n) (memory_clocks_clear at n)
    (inits_clear at n) (loops_clear at n)
