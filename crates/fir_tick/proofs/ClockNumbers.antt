-- The number of a clock among the clocks is what stands at its leaf.
use Rattle.std.proofs.Common.{◌≡◌, ℕ, zero, suc, ◌+◌, List, [], ◌∷◌, ◌++◌, refl, ap, ◌∙◌, arith, Some, slice_index}
use Rattle.std.specs.Prelude.{slice_get}
use Rattle.fir_net.specs.declared.leaf.Role.{Role}
use Rattle.fir_net.specs.declared.leaf.Role.TheVariants as role
use Rattle.fir_net.specs.declared.leaf.Leaf.{Leaf}
use Rattle.fir_net.specs.working.Settled.{clock_number, numbers_by}
use Rattle.fir_tick.specs.working.Roots.{clock_count, clocks_before}

-- the clock of a number, among leaves that are numbered from `from` on and before which there are m clocks
pub record IsClockAt (from m : ℕ) (ls : List Leaf) (n k : ℕ) : Type 0 where
  pub place : ℕ
  pub leaf : Leaf
  pub is : k ≡ from + place
  pub number : slice_index (clocks_before m ls) place ≡ m + n
  pub at : slice_get ls place ≡ Some leaf
  pub kind : leaf.role ≡ role.Clock

behind : (from m : ℕ) (l : Leaf) (ls : List Leaf) (n i k : ℕ) → m + clock_count l.role + i ≡ m + n → IsClockAt (from + 1) (m + clock_count l.role) ls i k → IsClockAt from m (l ∷ ls) n k
behind from m l ls n i k e r =
    let is : k ≡ from + 1 + r.place = r.is in
    record { place = suc r.place; leaf = r.leaf; is = omega arith; number = r.number ∙ e; at = r.at; kind = r.kind }

module _ (from m k : ℕ) (l : Leaf) (ls : List Leaf) (rest : (c i : ℕ) → slice_get (numbers_by clock_number (from + 1) ls) i ≡ Some k → IsClockAt (from + 1) c ls i k) where
  plain : clock_count l.role ≡ 0 → (i : ℕ) → slice_get (numbers_by clock_number (from + 1) ls) i ≡ Some k → IsClockAt from m (l ∷ ls) i k
  plain none i h = let same : m + clock_count l.role + i ≡ m + i = rw none (omega arith) in behind from m l ls i i k same (rest (m + clock_count l.role) i h)

  here : l.role ≡ role.Clock → (i : ℕ) → slice_get (from ∷ numbers_by clock_number (from + 1) ls) i ≡ Some k → IsClockAt from m (l ∷ ls) i k
  here s zero h = let same : from ≡ k = cc in record { place = zero; leaf = l; is = omega arith; number = omega arith; at = refl; kind = s }
  here s (suc i) h = let count : m + clock_count l.role + i ≡ m + suc i = rw s (omega arith) in behind from m l ls (suc i) i k count (rest (m + clock_count l.role) i h)

  by_role : (r : Role) → l.role ≡ r → (i : ℕ) → slice_get (clock_number l.role l.width from ++ numbers_by clock_number (from + 1) ls) i ≡ Some k → IsClockAt from m (l ∷ ls) i k
  by_role role.Clock s i h = here s i (rw s at h)
  by_role role.Input s i h = plain (ap clock_count s) i (rw s at h)
  by_role (role.Output d) s i h = plain (ap clock_count s) i (rw s at h)
  by_role (role.Register d) s i h = plain (ap clock_count s) i (rw s at h)
  by_role (role.Wire d) s i h = plain (ap clock_count s) i (rw s at h)
  by_role (role.Reading d) s i h = plain (ap clock_count s) i (rw s at h)
  by_role (role.Pipe d) s i h = plain (ap clock_count s) i (rw s at h)
  by_role (role.ClockOutput d) s i h = plain (ap clock_count s) i (rw s at h)
  by_role (role.ClockWire d) s i h = plain (ap clock_count s) i (rw s at h)

pub clock_at : (ls : List Leaf) (from m n k : ℕ) → slice_get (numbers_by clock_number from ls) n ≡ Some k → IsClockAt from m ls n k
clock_at [] from m n k e = cc
clock_at (l ∷ ls) from m n k e = by_role from m k l ls (λ c i h. clock_at ls (from + 1) c i k h) l.role refl n e
