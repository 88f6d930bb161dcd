-- In a whole net with an order a clock leaf has a clock in all settled values just where the drivers of it end at a clock input.
use Rattle.std.proofs.Common.{◌≡◌, ◌↔◌, ℕ, zero, suc, ◌<◌, List, [], ◌∷◌, Option, Some, None, refl, sym, ap, ◌∙◌, subst, arith, true, true≢false}
use Rattle.std.specs.Prelude.{IsSome, map, slice_get}
use Rattle.std.proofs.lemmas.Nat.{pow_pos}
use Rattle.std.proofs.lemmas.Option.{slice_get_within}
use Rattle.fir_base.specs.Ticks.{Tick, FitEach, HasShape}
use Rattle.fir_net.specs.declared.reads.Read.{Read}
use Rattle.fir_net.specs.declared.reads.Read.TheVariants as read
use Rattle.fir_net.specs.declared.leaf.Leaf.{Leaf}
use Rattle.fir_net.specs.declared.leaf.Role.{Role}
use Rattle.fir_net.specs.declared.leaf.Role.TheVariants as role
use Rattle.fir_net.specs.declared.net.FlatNet.{FlatNet}
use Rattle.fir_net.specs.working.Dependence.{Reads, clock_reads, leaf_reads, role_reads}
use Rattle.fir_net.specs.working.IsNet.{CanBeClock, IsClock, IsNet, IsRole}
use Rattle.fir_net.specs.working.IsOrder.{IsOrder}
use Rattle.fir_net.specs.working.One.{One as NetOne}
use Rattle.fir_net.specs.working.Settled.{Settled, clock_driver, clock_number, is_clock, shape}
use Rattle.fir_net.proofs.LeafEquations.{driven_at}
use Rattle.fir_net.proofs.NumberedLeaves.{among, clocks_own}
use Rattle.fir_equivalence.specs.working.IsEquivalent.{HasClock}
use Rattle.ver_build.specs.working.BlockRegisters.{EndsAtInput, handed_on, input}

-- a state and a tick of each shape: all values are 0, and no clock rises
zeros_fit : (ws : List ℕ) → FitEach ws (map (λ (w : ℕ). 0) ws)
zeros_fit [] = tt
zeros_fit (w ∷ ws) = (pow_pos w, zeros_fit ws)

module _ (net : FlatNet) where
  zero_state : List ℕ
  zero_state = map (λ (w : ℕ). 0) (shape net).state

  zero_tick : Tick
  zero_tick = record { inputs = map (λ (w : ℕ). 0) (shape net).inputs; clocks = [] }

  zeros_shaped : HasShape (shape net) zero_state zero_tick
  unfolding zero_state zero_tick
  zeros_shaped = record { inputs_fit = zeros_fit (shape net).inputs; clocks_rise = tt; state_fits = zeros_fit (shape net).state }

  -- ---- from an input on

  ends_has : (k : ℕ) → EndsAtInput net k → HasClock net k
  ends_has _ (input k l at is) state tick env clock s =
      let place = among clock_number clocks_own net.leaves k l at (ap (λ (r : Role). clock_number r l.width k) is) in
      rw (s.clock_inputs place.0 k place.1) refl
  ends_has _ (handed_on k j l at is ends) state tick env clock s =
      subst IsSome (sym (s.clocks_driven k l (Some j) at is)) (ends_has j ends state tick env clock s)

  -- ---- back to one, down the order

  module _ (whole : IsNet net) (order : List Read) (is_order : IsOrder net order) (state : List ℕ) (tick : Tick) (env : ℕ → ℕ) (clock : ℕ → Option ℕ)
      (s : Settled net state tick env clock) where
    -- what stands before a place
    abbrev EndsBefore : ℕ → Type 0
    EndsBefore n = (i k : ℕ) → i < n → slice_get order i ≡ Some (read.Leaf k) → IsClock net.leaves k → IsSome (clock k) → EndsAtInput net k

    module _ (n i k : ℕ) (before : EndsBefore n) (within : i < suc n) (here : slice_get order i ≡ Some (read.Leaf k)) (l : Leaf)
        (at : slice_get net.leaves k ≡ Some l) (some : IsSome (clock k)) where
      driven_ends : (c : Option ℕ) → clock_driver l.role ≡ Some c → role_reads l.role ≡ clock_reads c → CanBeClock net.leaves c → EndsAtInput net k
      driven_ends None is reads can = absurd (true≢false (sym (subst IsSome (s.clocks_driven k l None at is) some)))
      driven_ends (Some j) is reads can =
          let hangs : Reads net (read.Leaf k) (read.Leaf j) =
          record { place = 0; is = ap (λ (o : Option Leaf). slice_get (leaf_reads o) 0) at ∙ ap (λ (rs : List Read). slice_get rs 0) reads } in
          let sooner = is_order.after i (read.Leaf k) (read.Leaf j) here hangs in
          let ends : EndsAtInput net j =
          before sooner.0 j (omega (arith, sooner.1, within)) sooner.2 can (subst IsSome (s.clocks_driven k l (Some j) at is) some) in
          handed_on k j l at is ends

      role_ends : (r : Role) → l.role ≡ r → is_clock r ≡ true → IsRole net.leaves net.nodes l.signed l.width r → EndsAtInput net k
      role_ends role.Clock is ticks can = input k l at is
      role_ends (role.ClockOutput c) is ticks can = driven_ends c (ap clock_driver is) (ap role_reads is) can.1
      role_ends (role.ClockWire c) is ticks can = driven_ends c (ap clock_driver is) (ap role_reads is) can.1
      role_ends role.Input is ticks can = cc
      role_ends (role.Output r) is ticks can = cc
      role_ends (role.Wire r) is ticks can = cc
      role_ends (role.Register r) is ticks can = cc
      role_ends (role.Reading r) is ticks can = cc
      role_ends (role.Pipe p) is ticks can = cc

    ends_before : (n : ℕ) → EndsBefore n
    ends_before zero i k within here ticking some = absurd (omega (arith, within))
    ends_before (suc n) i k within here (l, at, ticks) some =
        role_ends n i k (ends_before n) within here l at some l.role refl ticks (driven_at net whole k l l.role at refl)

  has_ends : IsNet net → (order : List Read) → IsOrder net order → NetOne net → (k : ℕ) → IsClock net.leaves k → HasClock net k → EndsAtInput net k
  has_ends whole order is_order one k is has =
      let h = one zero_state zero_tick zeros_shaped in
      let place = is_order.all (read.Leaf k) (slice_get_within net.leaves k is.0 is.1) in
      ends_before whole order is_order zero_state zero_tick h.env h.clock h.settled (suc place.0) place.0 k (omega arith) place.1 is
      (has zero_state zero_tick h.env h.clock h.settled)

  pub ends_where_it_has : IsNet net → (order : List Read) → IsOrder net order → NetOne net → (k : ℕ) → IsClock net.leaves k → EndsAtInput net k ↔ HasClock net k
  ends_where_it_has whole order is_order one k is = (ends_has k, has_ends whole order is_order one k is)
