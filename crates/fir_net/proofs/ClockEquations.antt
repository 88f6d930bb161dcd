-- Which clock each clock leaf is: its equation, which hangs on the clock leaf that drives it.
use Rattle.std.proofs.Common.{◌≡◌, ℕ, List, true, refl, sym, ap, ◌∙◌}
use Rattle.std.specs.Prelude.{slice_get, Option, Some, None}
use Rattle.fir_net.specs.declared.reads.Read.{Read}
use Rattle.fir_net.specs.declared.reads.Read.TheVariants as read
use Rattle.fir_net.specs.declared.leaf.Role.{Role}
use Rattle.fir_net.specs.declared.leaf.Role.TheVariants as role
use Rattle.fir_net.specs.declared.leaf.Leaf.{Leaf}
use Rattle.fir_net.specs.declared.net.FlatNet.{FlatNet}
use Rattle.fir_net.specs.working.Dependence.{clock_reads, role_reads, leaf_reads, Reads}
use Rattle.fir_net.specs.working.IsNet.{CanBeClock, IsRole, IsNet}
use Rattle.fir_net.specs.working.IsOrder.{IsOrder}
use Rattle.fir_net.specs.working.Settled.{is_clock, driven_clock, clocks}
use Rattle.fir_net.proofs.Places.{place_of}
use Rattle.fir_net.proofs.AlongOrder.{SameBefore, HangsBefore}
use Rattle.fir_net.proofs.LeafEquations.{driven_at}

-- a leaf that is a clock
pub record IsTicking (net : FlatNet) (k : ℕ) : Type 0 where
  pub leaf : Leaf
  pub at : slice_get net.leaves k ≡ Some leaf
  pub ticking : is_clock leaf.role ≡ true

-- the clock by the role
abbrev pub role_clock : FlatNet → (ℕ → Option ℕ) → ℕ → Role → Option ℕ
role_clock net clock k role.Clock = Some (place_of k (clocks net))
role_clock net clock k (role.ClockOutput c) = driven_clock clock c
role_clock net clock k (role.ClockWire c) = driven_clock clock c
role_clock net clock k _ = None

abbrev pub leaf_clock : FlatNet → (ℕ → Option ℕ) → ℕ → Option Leaf → Option ℕ
leaf_clock net clock k None = None
leaf_clock net clock k (Some l) = role_clock net clock k l.role

abbrev pub clock_equation : FlatNet → (ℕ → Option ℕ) → ℕ → Option ℕ
clock_equation net clock k = leaf_clock net clock k (slice_get net.leaves k)

pub clock_at : (net : FlatNet) (clock : ℕ → Option ℕ) (k : ℕ) (l : Leaf) (r : Role) → slice_get net.leaves k ≡ Some l → l.role ≡ r → clock_equation net clock k ≡ role_clock net clock k r
clock_at net clock k l r at is = ap (leaf_clock net clock k) at ∙ ap (role_clock net clock k) is

module _ (net : FlatNet) (whole : IsNet net) (order : List Read) (is_order : IsOrder net order) where
  module _ (c d : ℕ → Option ℕ) (i k : ℕ) (l : Leaf) (here : slice_get order i ≡ Some (read.Leaf k)) (at : slice_get net.leaves k ≡ Some l) (same : SameBefore order (IsTicking net) i c d) where
    driven_same : (o : Option ℕ) → role_reads l.role ≡ clock_reads o → CanBeClock net.leaves o → driven_clock c o ≡ driven_clock d o
    driven_same None reads can = refl
    driven_same (Some j) reads can =
        let hangs : Reads net (read.Leaf k) (read.Leaf j) = record { place = 0; is = ap (λ (o : Option Leaf). slice_get (leaf_reads o) 0) at ∙ ap (λ (rs : List Read). slice_get rs 0) reads } in
        let before = is_order.after i (read.Leaf k) (read.Leaf j) here hangs in
        same.each before.0 j before.1 before.2 (record { leaf = can.0; at = can.1; ticking = can.2 })

    role_same : (r : Role) → l.role ≡ r → IsRole net.leaves net.nodes l.signed l.width r → role_clock net c k r ≡ role_clock net d k r
    role_same role.Input is can = refl
    role_same role.Clock is can = refl
    role_same (role.Output r) is can = refl
    role_same (role.Wire r) is can = refl
    role_same (role.Register r) is can = refl
    role_same (role.Reading r) is can = refl
    role_same (role.Pipe p) is can = refl
    role_same (role.ClockOutput o) is can = driven_same o (ap role_reads is) can.1
    role_same (role.ClockWire o) is can = driven_same o (ap role_reads is) can.1

  pub clocks_hang : HangsBefore order (IsTicking net) (clock_equation net)
  clocks_hang = record {
    each = λ i k c d here ticking same.
        let l = ticking.leaf in
        clock_at net c k l l.role ticking.at refl
        ∙ role_same c d i k l here ticking.at same l.role refl (driven_at net whole k l l.role ticking.at refl)
        ∙ sym (clock_at net d k l l.role ticking.at refl);
  }
