-- The walk along the leaves of an order.
-- The place of a leaf is written after those of the leaves that drive it, so what it is made of stays.
use Rattle.std.proofs.Common.{◌≡◌, ℕ, ◌+◌, ◌<◌, ◌≤◌, List, Bool, length, refl, sym, ap, ◌∙◌, ⊎_elim, arith, Option, Some, None}
use Rattle.std.specs.Prelude.{slice_get}
use Rattle.std.proofs.Math.ListN.{set}
use Rattle.std.proofs.lemmas.List.{length-set}
use Rattle.std.proofs.lemmas.Option.{slice_get_within}
use Rattle.std.proofs.Math.Nat.{eq-or-lt_of_le}
use Rattle.fir_net.specs.declared.reads.Read.{Read}
use Rattle.fir_net.specs.declared.reads.Read.TheVariants as read
use Rattle.fir_net.specs.declared.leaf.Role.{Role}
use Rattle.fir_net.specs.declared.leaf.Role.TheVariants as role
use Rattle.fir_net.specs.declared.leaf.Leaf.{Leaf}
use Rattle.fir_net.specs.declared.net.FlatNet.{FlatNet}
use Rattle.fir_net_names.specs.declared.name_table.NameTable.{NameTable}
use Rattle.fir_net.specs.working.Dependence.{IsOf, role_reads, leaf_reads}
use Rattle.fir_net.specs.working.IsOrder.{IsOrder}
use Rattle.ver_build.specs.declared.places.NodePlace.{NodePlace}
use Rattle.ver_build.specs.declared.places.Place.{Place}
use Rattle.ver_build.specs.declared.places.Place.TheVariants as place
use Rattle.fir_net_names.specs.working.LeafNamed.{name_at}
use Rattle.ver_build.specs.working.Places.{held_in, place_at, place_value, place_clock, placed, driven_clock_in, ArePlaced}
use Rattle.ver_build.specs.working.Held.{no_bits, fit}
use Rattle.ver_build.specs.working.Walks.{IsLeafPassed}
use Rattle.ver_build.proofs.Walk.{at_set, at_other, leaf_below, other_leaf}

-- the leaves among the first i of the order have their places
pub record LeafWalk (net : FlatNet) (t : NameTable) (order : List Read) (nodes readings : List NodePlace) (places : List Place) (i : ℕ) : Type 0 where
  pub room : length places ≡ length net.leaves
  pub done : (j k : ℕ) (l : Leaf) → j < i → slice_get order j ≡ Some (read.Leaf k) → slice_get net.leaves k ≡ Some l
      → place_at places k ≡ placed places nodes readings (name_at t.leaves k) k l.signed l.width l.role

-- the role does not read that leaf
record Misses (r : Role) (k : ℕ) : Type 0 where
  each : (p : ℕ) (w : Read) → slice_get (role_reads r) p ≡ Some w → w ≡ read.Leaf k → ⊥

module _ (places : List Place) (nodes readings : List NodePlace) (k : ℕ) (x : Place) where
  same_held : (r : Read) → (r ≡ read.Leaf k → ⊥) → held_in (set places k x) nodes r ≡ held_in places nodes r
  same_held (read.Leaf m) other = ap place_value (at_other places k m x (place.Value no_bits) (λ e. other (ap read.Leaf e)))
  same_held (read.Node m) other = refl

  same_clock : (c : Option ℕ) → ((m : ℕ) → c ≡ Some m → m ≡ k → ⊥) → driven_clock_in (set places k x) c ≡ driven_clock_in places c
  same_clock None other = refl
  same_clock (Some m) other = ap place_clock (at_other places k m x (place.Value no_bits) (other m refl))

  missed_clock : (c : Option ℕ) (r : Role) → role_reads r ≡ role_reads (role.ClockWire c) → Misses r k → (m : ℕ) → c ≡ Some m → m ≡ k → ⊥
  missed_clock c r reads misses m is same = misses.each 0 (read.Leaf m) (rw (reads, is) refl) (ap read.Leaf same)

  same_placed : (name : Option (List ℕ)) (m : ℕ) (s : Bool) (w : ℕ) (r : Role) → Misses r k
      → placed (set places k x) nodes readings name m s w r ≡ placed places nodes readings name m s w r
  same_placed name m s w role.Input misses = refl
  same_placed name m s w role.Clock misses = refl
  same_placed name m s w (role.Output r) misses = ap (λ h. place.Value (fit w h)) (same_held r (misses.each 0 r refl))
  same_placed name m s w (role.Wire r) misses = ap (λ h. place.Value (fit w h)) (same_held r (misses.each 0 r refl))
  same_placed name m s w (role.Register r) misses = refl
  same_placed name m s w (role.Reading r) misses = refl
  same_placed name m s w (role.Pipe q) misses = refl
  same_placed name m s w (role.ClockOutput c) misses = ap place.Clock (same_clock c (missed_clock c (role.ClockOutput c) refl misses))
  same_placed name m s w (role.ClockWire c) misses = ap place.Clock (same_clock c (missed_clock c (role.ClockWire c) refl misses))

module _ (net : FlatNet) (t : NameTable) (order : List Read) (nodes readings : List NodePlace) (is : IsOrder net order) where
  pub leaves_begin : (places : List Place) → length places ≡ length net.leaves → LeafWalk net t order nodes readings places 0
  leaves_begin places long = record { room = long; done = λ j k l h. absurd (omega arith) }

  pub leaves_pass : (places : List Place) (i k : ℕ) → slice_get order i ≡ Some (read.Node k) → LeafWalk net t order nodes readings places i
      → LeafWalk net t order nodes readings places (i + 1)
  leaves_pass places i k at walk = record { room = walk.room; done = passed }
    where
      passed : (j m : ℕ) (l : Leaf) → j < i + 1 → slice_get order j ≡ Some (read.Leaf m) → slice_get net.leaves m ≡ Some l
          → place_at places m ≡ placed places nodes readings (name_at t.leaves m) m l.signed l.width l.role
      passed j m l h is_at leaf =
          ⊎_elim
          (λ (same : j ≡ i). let e : Some (read.Node k) ≡ Some (read.Leaf m) = sym at ∙ ap (slice_get order) (sym same) ∙ is_at in absurd (cc))
          (λ (below : j < i). walk.done j m l below is_at leaf)
          (eq-or-lt_of_le (let le : j ≤ i = omega arith in le))

  -- a leaf that stands no later than k's reads other leaves
  misses : (i j k m : ℕ) (l : Leaf) → j < i + 1 → slice_get order i ≡ Some (read.Leaf k) → slice_get order j ≡ Some (read.Leaf m)
      → slice_get net.leaves m ≡ Some l → Misses l.role k
  misses i j k m l below at here leaf = record {
    each = λ p w e same.
        let reads : slice_get (leaf_reads (slice_get net.leaves m)) p ≡ Some w = rw leaf e in
        let before = is.after j (read.Leaf m) w here (record { place = p; is = reads }) in
        let both : i ≡ before.0 = is.once i before.0 (read.Leaf k) at (before.2 ∙ ap Some same) in
        let less = before.1 in
        omega arith;
  }

  pub leaves_next : (places : List Place) (i k : ℕ) (l : Leaf) (x : Place) → slice_get order i ≡ Some (read.Leaf k) → slice_get net.leaves k ≡ Some l
      → x ≡ placed places nodes readings (name_at t.leaves k) k l.signed l.width l.role
      → LeafWalk net t order nodes readings places i → LeafWalk net t order nodes readings (set places k x) (i + 1)
  leaves_next places i k l x at leaf made walk = record { room = length-set places k x ∙ walk.room; done = passed }
    where
      long : k < length places
      long = let r = walk.room in let b = leaf_below net t order is i k at in omega arith

      passed : (j m : ℕ) (y : Leaf) → j < i + 1 → slice_get order j ≡ Some (read.Leaf m) → slice_get net.leaves m ≡ Some y
          → place_at (set places k x) m ≡ placed (set places k x) nodes readings (name_at t.leaves m) m y.signed y.width y.role
      passed j m y below is_at other =
          let stays = same_placed places nodes readings k x (name_at t.leaves m) m y.signed y.width y.role (misses i j k m y below at is_at other) in
          ⊎_elim
          (λ (same : j ≡ i).
          let e : Some (read.Leaf k) ≡ Some (read.Leaf m) = sym at ∙ ap (slice_get order) (sym same) ∙ is_at in
          let number : k ≡ m = cc in
          let leaves : l ≡ y = let o : Some l ≡ Some y = sym leaf ∙ ap (slice_get net.leaves) number ∙ other in cc in
          ap (place_at (set places k x)) (sym number) ∙ at_set places k x (place.Value no_bits) long ∙ made
          ∙ ap (λ (z : Leaf). placed places nodes readings (name_at t.leaves k) k z.signed z.width z.role) leaves
          ∙ ap (λ (n : ℕ). placed places nodes readings (name_at t.leaves n) n y.signed y.width y.role) number ∙ sym stays)
          (λ (before : j < i).
          at_other places k m x (place.Value no_bits) (other_leaf net t order is i j k m before at is_at) ∙ walk.done j m y before is_at other
          ∙ sym stays)
          (eq-or-lt_of_le (let le : j ≤ i = omega arith in le))

  pub leaves_step : (places new : List Place) (i : ℕ) (r : Read) → slice_get order i ≡ Some r → IsLeafPassed net t nodes readings r places new
      → LeafWalk net t order nodes readings places i → LeafWalk net t order nodes readings new (i + 1)
  leaves_step places new i (read.Leaf k) at passed walk =
      rw passed.2 (leaves_next places i k passed.0 (placed places nodes readings (name_at t.leaves k) k passed.0.signed passed.0.width passed.0.role) at
      passed.1 refl walk)
  leaves_step places new i (read.Node k) at passed walk = rw passed (leaves_pass places i k at walk)

  pub leaves_end : (places : List Place) → LeafWalk net t order nodes readings places (length order) → ArePlaced net t nodes readings places
  leaves_end places walk = record {
    each = λ k l at.
        let place = is.all (read.Leaf k) (slice_get_within net.leaves k l at) in
        walk.done place.0 k l (slice_get_within order place.0 (read.Leaf k) place.1) place.1 at;
  }

-- the loop along the order
pub record LeafLoop (net : FlatNet) (t : NameTable) (order : List Read) (nodes readings : List NodePlace) (places : List Place) (i : ℕ) : Type 0 where
  pub walk : IsOrder net order → LeafWalk net t order nodes readings places i

pub loop_begins : (net : FlatNet) (t : NameTable) (order : List Read) (nodes readings : List NodePlace) (places : List Place)
    → length places ≡ length net.leaves → LeafLoop net t order nodes readings places 0
loop_begins net t order nodes readings places long = record { walk = λ is. leaves_begin net t order nodes readings is places long }

pub loop_goes_on : (net : FlatNet) (t : NameTable) (order : List Read) (nodes readings : List NodePlace) (places new : List Place) (i : ℕ) (r : Read)
    → slice_get order i ≡ Some r
    → (IsOf net r → length places ≡ length net.leaves → IsLeafPassed net t nodes readings r places new) → LeafLoop net t order nodes readings places i
    → LeafLoop net t order nodes readings new (i + 1)
loop_goes_on net t order nodes readings places new i r at passed before = record {
  walk = λ is. let walk = before.walk is in leaves_step net t order nodes readings is places new i r at (passed (is.only i r at) walk.room) walk;
}
