-- A clock leaf of a net with an order has a root or no clock, and all ports of an array that have a clock have the same one.
use Rattle.std.proofs.Common.{◌≡◌, ℕ, zero, suc, ◌<◌, List, [], ◌∷◌, true, false, refl, sym, ap, ◌∙◌, subst, arith, ◌⊎◌, inl, inr}
use Rattle.std.specs.Prelude.{slice_get, Option, Some, None}
use Rattle.std.proofs.lemmas.Option.{slice_get_within}
use Rattle.fir_base.proofs.Elements.{all_there}
use Rattle.fir_base.specs.Ticks.{Tick}
use Rattle.fir_net.specs.declared.leaf.Leaf.{Leaf}
use Rattle.fir_net.specs.declared.leaf.Role.{Role}
use Rattle.fir_net.specs.declared.leaf.Role.TheVariants as role
use Rattle.fir_net.specs.declared.net.FlatNet.{FlatNet}
use Rattle.fir_net.specs.declared.reads.Read.{Read}
use Rattle.fir_net.specs.declared.reads.Read.TheVariants as read
use Rattle.fir_net.specs.working.Dependence.{leaf_reads}
use Rattle.fir_net.specs.working.IsNet.{IsClock, IsLeaf, IsNet, IsRole}
use Rattle.fir_net.specs.working.IsOrder.{IsOrder}
use Rattle.fir_net.specs.working.IsWritable.{EndsAt, HasOneClocks, IsPortClock, input as end, driven as on}
use Rattle.fir_net.specs.working.Next.{ticks}
use Rattle.fir_net.specs.working.Settled.{Settled, clock_driver, is_clock}
use Rattle.fir_clock_root.specs.working.ClockRoots.{HasRoot, RootIsClock, driven, input, inputs_before}

-- where the drivers of a leaf with a root end
pub has_end : (net : FlatNet) (k n : ℕ) → HasRoot net k n → (i : ℕ) × EndsAt net k i × (inputs_before net.leaves i ≡ n)
has_end net _ _ (input k n l at is count) = (k, end k l at is, count)
has_end net _ _ (driven k j n l at is more) =
    let e = has_end net j n more in
    (e.0, on k j e.0 l at is e.1, e.2)

module _ (net : FlatNet) (order : List Read) (whole : IsNet net) (ordered : IsOrder net order) (state : List ℕ) (tick : Tick) (env : ℕ → ℕ) (clock : ℕ → Option ℕ) (s : Settled net state tick env clock) where
  abbrev RootOrNone : ℕ → Type 0
  RootOrNone k = ((n : ℕ) × HasRoot net k n) ⊎ (clock k ≡ None)

  abbrev Before : ℕ → Type 0
  Before i = (j k : ℕ) → j < i → slice_get order j ≡ Some (read.Leaf k) → IsClock net.leaves k → RootOrNone k

  driven_by : (i k : ℕ) (l : Leaf) (c : Option ℕ) → Before i → slice_get order i ≡ Some (read.Leaf k) → slice_get net.leaves k ≡ Some l → clock_driver l.role ≡ Some c
      → ((j : ℕ) → c ≡ Some j → IsClock net.leaves j × (leaf_reads (Some l) ≡ read.Leaf j ∷ [])) → RootOrNone k
  driven_by i k l None before here at is reads = inr (s.clocks_driven k l None at is)
  driven_by i k l (Some j) before here at is reads =
      let own = reads j refl in
      let at_once : slice_get (leaf_reads (slice_get net.leaves k)) 0 ≡ Some (read.Leaf j) = ap (λ (o : Option Leaf). slice_get (leaf_reads o) 0) at ∙ ap (λ (rs : List Read). slice_get rs 0) own.1 in
      let earlier = ordered.after i (read.Leaf k) (read.Leaf j) here (record { place = 0; is = at_once }) in
      by (before earlier.0 j earlier.1 earlier.2 own.0)
    where
      by : RootOrNone j → RootOrNone k
      by (inl (n, root)) = inl (n, driven k j n l at is root)
      by (inr none) = inr (s.clocks_driven k l (Some j) at is ∙ none)

  reads_clock : (l : Leaf) (r : Role) (c : Option ℕ) → l.role ≡ r → IsRole net.leaves net.nodes l.signed l.width r → clock_driver r ≡ Some c → (j : ℕ) → c ≡ Some j
      → IsClock net.leaves j × (leaf_reads (Some l) ≡ read.Leaf j ∷ [])
  reads_clock l role.Input c is own e j f = cc
  reads_clock l role.Clock c is own e j f = cc
  reads_clock l (role.Output r) c is own e j f = cc
  reads_clock l (role.Wire r) c is own e j f = cc
  reads_clock l (role.Register r) c is own e j f = cc
  reads_clock l (role.Reading r) c is own e j f = cc
  reads_clock l (role.Pipe r) c is own e j f = cc
  reads_clock l (role.ClockOutput None) c is own e j f = cc
  reads_clock l (role.ClockOutput (Some d)) c is own e j f = let same : d ≡ j = cc in (subst (IsClock net.leaves) same own.1, rw (is, same) refl)
  reads_clock l (role.ClockWire None) c is own e j f = cc
  reads_clock l (role.ClockWire (Some d)) c is own e j f = let same : d ≡ j = cc in (subst (IsClock net.leaves) same own.1, rw (is, same) refl)

  at_role : (i k : ℕ) (l : Leaf) (r : Role) → Before i → slice_get order i ≡ Some (read.Leaf k) → slice_get net.leaves k ≡ Some l → l.role ≡ r → is_clock r ≡ true → RootOrNone k
  at_role i k l role.Clock before here at is clocked = inl (inputs_before net.leaves k, input k (inputs_before net.leaves k) l at is refl)
  at_role i k l (role.ClockOutput c) before here at is clocked =
      let own = subst (IsRole net.leaves net.nodes l.signed l.width) is (all_there (IsLeaf net.leaves net.nodes) net.leaves whole.leaves k l at).driven in
      driven_by i k l c before here at (ap clock_driver is) (reads_clock l (role.ClockOutput c) c is own refl)
  at_role i k l (role.ClockWire c) before here at is clocked =
      let own = subst (IsRole net.leaves net.nodes l.signed l.width) is (all_there (IsLeaf net.leaves net.nodes) net.leaves whole.leaves k l at).driven in
      driven_by i k l c before here at (ap clock_driver is) (reads_clock l (role.ClockWire c) c is own refl)
  at_role i k l role.Input before here at is clocked = cc
  at_role i k l (role.Output r) before here at is clocked = cc
  at_role i k l (role.Wire r) before here at is clocked = cc
  at_role i k l (role.Register r) before here at is clocked = cc
  at_role i k l (role.Reading r) before here at is clocked = cc
  at_role i k l (role.Pipe r) before here at is clocked = cc

  below : (n : ℕ) → Before n
  below zero j k less here is = absurd (omega (arith, less))
  below (suc n) j k less here is =
      at_role j k is.0 is.0.role (λ h m lower at clocked. below n h m (omega (arith, less, lower)) at clocked) here is.1 refl is.2

  pub root_or_none : (k : ℕ) → IsClock net.leaves k → RootOrNone k
  root_or_none k is =
      let i = ordered.all (read.Leaf k) (slice_get_within net.leaves k is.0 is.1) in
      below (suc i.0) i.0 k (omega arith) i.1 is

  module _ (law : RootIsClock) (one : HasOneClocks net) (named : List ℕ) where
    -- a port with a root has the clock of another one of its array that ticks
    pub same_clock : (array x y n : ℕ) → IsPortClock net array x → IsPortClock net array y → HasRoot net x n → IsClock net.leaves y → ticks named (clock y) ≡ true → ticks named (clock x) ≡ true
    same_clock array x y n px py root is t = by (root_or_none y is)
      where
        by : RootOrNone y → ticks named (clock x) ≡ true
        by (inr none) = let clash : false ≡ true = ap (ticks named) (sym none) ∙ t in cc
        by (inl (m, other)) =
            let e = has_end net x n root in
            let f = has_end net y m other in
            let ends : e.0 ≡ f.0 = one.same array x y e.0 f.0 px py e.1 f.1 in
            let numbers : n ≡ m = sym e.2 ∙ ap (inputs_before net.leaves) ends ∙ f.2 in
            let own : clock x ≡ Some n = law net x n state tick env clock s root in
            let its : clock y ≡ Some m = law net y m state tick env clock s other in
            ap (ticks named) (own ∙ ap Some numbers ∙ sym its) ∙ t

    pub never_ticks : (x : ℕ) → IsClock net.leaves x → ((n : ℕ) → HasRoot net x n → ⊥) → ticks named (clock x) ≡ false
    never_ticks x is bare = by (root_or_none x is)
      where
        by : RootOrNone x → ticks named (clock x) ≡ false
        by (inr none) = ap (ticks named) none
        by (inl (n, root)) = absurd (bare n root)
