-- A whole net whose leaves and nodes have an order has one choice of values and clocks.
use Rattle.std.proofs.Common.{◌≡◌, ℕ, ◌^◌, ◌<◌, List, length, false}
use Rattle.std.specs.Prelude.{slice_get, Option, Some, None}
use Rattle.std.proofs.lemmas.Nat.{pow_pos}
use Rattle.std.proofs.lemmas.Option.{slice_get_within}
use Rattle.fir_base.specs.Ticks.{Tick, HasShape}
use Rattle.fir_bits.specs.working.Laws.{HasItsType}
use Rattle.fir_net.specs.declared.reads.Read.{Read}
use Rattle.fir_net.specs.declared.reads.Read.TheVariants as read
use Rattle.fir_net.specs.declared.leaf.Leaf.{Leaf}
use Rattle.fir_net.specs.declared.net.FlatNet.{FlatNet}
use Rattle.fir_net.specs.working.IsNet.{IsNet}
use Rattle.fir_net.specs.working.IsOrder.{IsOrder}
use Rattle.fir_net.specs.working.One.{HasOne}
use Rattle.fir_net.specs.working.Laws.{LeavesFit, OrderedHasOne}
use Rattle.fir_net.specs.working.Settled.{shape, is_clock, Settled}
use Rattle.fir_net.proofs.AlongOrder.{MeetsBefore, Filled, agree, fill}
use Rattle.fir_net.proofs.ValuesAlong.{IsPlain}
use Rattle.fir_net.proofs.LeafEquations.{value_equation, value_below, values_hang}
use Rattle.fir_net.proofs.ClockEquations.{IsTicking, clock_equation, clocks_hang}
use Rattle.fir_net.proofs.SettledEquations.{values_met, clocks_met, settled}

module _ (law : HasItsType) (net : FlatNet) (order : List Read) (whole : IsNet net) (is_order : IsOrder net order) (state : List ℕ) (tick : Tick) (shaped : HasShape (shape net) state tick) where
  -- a number that fits the leaf, where there is one that is no clock
  abbrev Fits : ℕ → ℕ → Type 0
  Fits k x = (l : Leaf) → slice_get net.leaves k ≡ Some l → is_clock l.role ≡ false → x < 2 ^ l.width

  fitting : (env : ℕ → ℕ) → ((k : ℕ) → Fits k (env k)) → LeavesFit net.leaves env
  fitting env h = record { each = h }

  values : Filled order (IsPlain net) (value_equation net state tick) is_order.once (values_hang net whole order is_order state tick) Fits (length order)
  values =
      fill order (IsPlain net) (value_equation net state tick) is_order.once (values_hang net whole order is_order state tick) Fits
      (λ env h k l at plain. value_below law net whole env (fitting env h) state tick shaped k l at)
      (λ k. 0) (λ k l at plain. pow_pos l.width) (length order)

  clocks : Filled order (IsTicking net) (clock_equation net) is_order.once (clocks_hang net whole order is_order) (λ k c. Unit {0}) (length order)
  clocks = fill order (IsTicking net) (clock_equation net) is_order.once (clocks_hang net whole order is_order) (λ k c. Unit {0}) (λ clock h k. tt) (λ k. None) (λ k. tt) (length order)

  -- each leaf stands in the order
  place : (k : ℕ) (l : Leaf) → slice_get net.leaves k ≡ Some l → (i : ℕ) × (i < length order) × (slice_get order i ≡ Some (read.Leaf k))
  place k l at = let a = is_order.all (read.Leaf k) (slice_get_within net.leaves k l at) in (a.0, slice_get_within order a.0 (read.Leaf k) a.1, a.1)

  is_settled : Settled net state tick values.choice clocks.choice
  is_settled =
      settled law net whole state tick shaped values.choice clocks.choice (fitting values.choice values.holds)
      (λ k p. let a = place k p.leaf p.at in values.meets.each a.0 k a.1 a.2 p)
      (λ k t. let a = place k t.leaf t.at in clocks.meets.each a.0 k a.1 a.2 t)

  one_env : (e f : ℕ → ℕ) (c d : ℕ → Option ℕ) → Settled net state tick e c → Settled net state tick f d → (k : ℕ) → IsPlain net k → e k ≡ f k
  one_env e f c d p q k plain =
      let a = place k plain.leaf plain.at in
      let met : (g : ℕ → ℕ) (b : ℕ → Option ℕ) → Settled net state tick g b → MeetsBefore order (IsPlain net) (value_equation net state tick) (length order) g = λ g b s. record { each = λ i j l at h. values_met law net whole state tick g b s j h } in
      (agree order (IsPlain net) (value_equation net state tick) (values_hang net whole order is_order state tick) (length order) e f (met e c p) (met f d q)).each a.0 k a.1 a.2 plain

  one_clock : (e f : ℕ → ℕ) (c d : ℕ → Option ℕ) → Settled net state tick e c → Settled net state tick f d → (k : ℕ) → IsTicking net k → c k ≡ d k
  one_clock e f c d p q k ticking =
      let a = place k ticking.leaf ticking.at in
      let met : (g : ℕ → ℕ) (b : ℕ → Option ℕ) → Settled net state tick g b → MeetsBefore order (IsTicking net) (clock_equation net) (length order) b = λ g b s. record { each = λ i j l at h. clocks_met law net whole state tick g b s j h } in
      (agree order (IsTicking net) (clock_equation net) (clocks_hang net whole order is_order) (length order) c d (met e c p) (met f d q)).each a.0 k a.1 a.2 ticking

  pub has_one : HasOne net state tick
  has_one = record {
    env = values.choice;
    clock = clocks.choice;
    settled = is_settled;
    same = λ e f c d p q k l at plain. one_env e f c d p q k (record { leaf = l; at = at; plain = plain });
    same_clocks = λ e f c d p q k l at ticking. one_clock e f c d p q k (record { leaf = l; at = at; ticking = ticking });
  }

pub ordered_has_one : HasItsType → OrderedHasOne
ordered_has_one law net order whole is_order state tick shaped = has_one law net order whole is_order state tick shaped
