-- The words of a net's state: the register or the pipe of each, and the place of each one that has bits.
use Rattle.std.proofs.Common.{◌≡◌, ℕ, List, true, false, nat_eq, ap, inl, inr, ◌⊎◌, ⊎_elim}
use Rattle.std.specs.Prelude.{slice_get, Some, not}
use Rattle.std.proofs.lemmas.Bool.{and_parts, and_from, not-true}
use Rattle.fir_net.specs.declared.array.Pipe.{Pipe}
use Rattle.fir_net.specs.declared.leaf.Register.{Register}
use Rattle.fir_net.specs.declared.leaf.Role.{Role}
use Rattle.fir_net.specs.declared.leaf.Role.TheVariants as role
use Rattle.fir_net.specs.declared.leaf.Leaf.{Leaf}
use Rattle.fir_net.specs.declared.net.FlatNet.{FlatNet}
use Rattle.fir_net.specs.working.Settled.{is_clock}
use Rattle.fir_net.specs.working.IsNet.{is_state, IsState}
use Rattle.fir_net.specs.working.IsWritable.{HasNoPipes}
use Rattle.fir_net.proofs.Places.{place_of, place_is}

-- a register or a pipe that has bits
pub record StateAt (leaves : List Leaf) (k : ℕ) : Type 0 where
  pub leaf : Leaf
  pub at : slice_get leaves k ≡ Some leaf
  pub is : is_state leaf.role ≡ true
  pub bits : nat_eq leaf.width 0 ≡ false

-- a register that has bits
pub record RegisterAt (leaves : List Leaf) (k : ℕ) : Type 0 where
  pub leaf : Leaf
  pub register : Register
  pub at : slice_get leaves k ≡ Some leaf
  pub is : leaf.role ≡ role.Register register
  pub bits : nat_eq leaf.width 0 ≡ false

-- what is state is a register or a pipe
pub state_of : (r : Role) → is_state r ≡ true → ((d : Register) × (r ≡ role.Register d)) ⊎ ((p : Pipe) × (r ≡ role.Pipe p))
state_of role.Input e = cc
state_of role.Clock e = cc
state_of (role.Output r) e = cc
state_of (role.Wire r) e = cc
state_of (role.Register d) e = inl (d, cc)
state_of (role.Reading r) e = cc
state_of (role.Pipe p) e = inr (p, cc)
state_of (role.ClockOutput c) e = cc
state_of (role.ClockWire c) e = cc

-- and so no clock
pub state_plain : (r : Role) → is_state r ≡ true → is_clock r ≡ false
state_plain role.Input e = cc
state_plain role.Clock e = cc
state_plain (role.Output r) e = cc
state_plain (role.Wire r) e = cc
state_plain (role.Register d) e = cc
state_plain (role.Reading r) e = cc
state_plain (role.Pipe p) e = cc
state_plain (role.ClockOutput c) e = cc
state_plain (role.ClockWire c) e = cc

-- the register or the pipe of a word
pub state_at : {leaves : List Leaf} {state : List ℕ} → IsState leaves state → (n k : ℕ) → slice_get state n ≡ Some k → StateAt leaves k
state_at s n k e =
    let found = s.only n k e in
    let l = found.0 in
    let both = and_parts (is_state l.role) (not (nat_eq l.width 0)) found.2 in
    record { leaf = l; at = found.1; is = both.0; bits = not-true (nat_eq l.width 0) both.1 }

-- where there are no pipes it is a register
pub register_at : {net : FlatNet} → IsState net.leaves net.state → HasNoPipes net → (n k : ℕ) → slice_get net.state n ≡ Some k → RegisterAt net.leaves k
register_at {net} s none n k e =
    let found = state_at s n k e in
    ⊎_elim
    (λ (r : (d : Register) × (found.leaf.role ≡ role.Register d)). record { leaf = found.leaf; register = r.0; at = found.at; is = r.1; bits = found.bits })
    (λ (r : (p : Pipe) × (found.leaf.role ≡ role.Pipe p)). absurd (none.none k found.leaf r.0 found.at r.1))
    (state_of found.leaf.role found.is)

-- the place of a register or a pipe that has bits
pub word_at : {leaves : List Leaf} {state : List ℕ} → IsState leaves state → (k : ℕ) (l : Leaf) → slice_get leaves k ≡ Some l → is_state l.role ≡ true → nat_eq l.width 0 ≡ false → (n : ℕ) × (slice_get state n ≡ Some k)
word_at s k l at is bits = s.all k l at (and_from (is_state l.role) (not (nat_eq l.width 0)) is (ap not bits))

-- where a word stands is its place
pub word_place : {leaves : List Leaf} {state : List ℕ} → IsState leaves state → (n k : ℕ) → slice_get state n ≡ Some k → place_of k state ≡ n
word_place s n k e = place_is _ s.once n k e
