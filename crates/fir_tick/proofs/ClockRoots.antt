-- The clocks of clock leaves along an order: each hangs on the one that drives it.
use Rattle.std.proofs.Common.{◌≡◌, ℕ, ◌+◌, ◌<◌, ◌≤◌, List, length, set, refl, sym, ap, ◌∙◌, arith, slice_index, length-set}
use Rattle.std.specs.Prelude.{slice_get, Option, Some, None, unwrap_or}
use Rattle.std.proofs.lemmas.Option.{slice_get_within}
use Rattle.fir_net.specs.declared.reads.Read.{Read}
use Rattle.fir_net.specs.declared.reads.Read.TheVariants as read
use Rattle.fir_net.specs.declared.leaf.Role.{Role}
use Rattle.fir_net.specs.declared.leaf.Role.TheVariants as role
use Rattle.fir_net.specs.declared.leaf.Leaf.{Leaf}
use Rattle.fir_net.specs.declared.net.FlatNet.{FlatNet}
use Rattle.fir_net.specs.working.Dependence.{clock_reads, role_reads, leaf_reads, Reads}
use Rattle.fir_net.specs.working.IsOrder.{IsOrder}
use Rattle.fir_net.specs.working.Settled.{clocks, clock_driver, driven_clock}
use Rattle.fir_tick.specs.working.Roots.{clocks_before, root_at, role_root, AreRoots}
use Rattle.fir_tick.proofs.ClockNumbers.{clock_at}
use Rattle.fir_tick.proofs.Lists.{get_set_same, get_set_other}
use Rattle.fir_tick.proofs.Walks.{Met, Hangs, none_met, one_more}

abbrev leaf_root : (ℕ → Option ℕ) → ℕ → Option Leaf → Option ℕ
leaf_root clock number None = None
leaf_root clock number (Some l) = role_root clock number l.role

-- the clock of a leaf, and of no node
abbrev pub root_of : List (Option ℕ) → Read → Option ℕ
root_of roots (read.Leaf k) = root_at roots k
root_of roots (read.Node k) = None

abbrev leaf_roots : (Read → Option ℕ) → ℕ → Option ℕ
leaf_roots e k = e (read.Leaf k)

abbrev pub root_equation : FlatNet → (Read → Option ℕ) → Read → Option ℕ
root_equation net e (read.Leaf k) = leaf_root (leaf_roots e) (slice_index (clocks_before 0 net.leaves) k) (slice_get net.leaves k)
root_equation net e (read.Node k) = None

-- what drives a clock leaf is the same
driven_same : (e f : Read → Option ℕ) (c : Option ℕ) → ((j : ℕ) (r : Read) → slice_get (clock_reads c) j ≡ Some r → e r ≡ f r) → driven_clock (leaf_roots e) c ≡ driven_clock (leaf_roots f) c
driven_same e f None h = refl
driven_same e f (Some k) h = h 0 (read.Leaf k) refl

role_same : (e f : Read → Option ℕ) (n : ℕ) (r : Role) → ((j : ℕ) (v : Read) → slice_get (role_reads r) j ≡ Some v → e v ≡ f v) → role_root (leaf_roots e) n r ≡ role_root (leaf_roots f) n r
role_same e f n role.Input h = refl
role_same e f n role.Clock h = refl
role_same e f n (role.Output r) h = refl
role_same e f n (role.Wire r) h = refl
role_same e f n (role.Register d) h = refl
role_same e f n (role.Reading d) h = refl
role_same e f n (role.Pipe d) h = refl
role_same e f n (role.ClockOutput c) h = driven_same e f c h
role_same e f n (role.ClockWire c) h = driven_same e f c h

leaf_same : (e f : Read → Option ℕ) (n : ℕ) (o : Option Leaf) → ((j : ℕ) (v : Read) → slice_get (leaf_reads o) j ≡ Some v → e v ≡ f v) → leaf_root (leaf_roots e) n o ≡ leaf_root (leaf_roots f) n o
leaf_same e f n None h = refl
leaf_same e f n (Some l) h = role_same e f n l.role h

-- the clocks of the leaves before the place
pub record Rooted (net : FlatNet) (order : List Read) (roots : List (Option ℕ)) (n : ℕ) : Type 0 where
  pub room : length roots ≡ length net.leaves
  pub met : Met order (root_equation net) n (root_of roots)

pub none_rooted : (net : FlatNet) (order : List Read) (roots : List (Option ℕ)) → length roots ≡ length net.leaves → Rooted net order roots 0
none_rooted net order roots room = record { room = room; met = none_met order (root_equation net) (root_of roots) }

module _ (net : FlatNet) (order : List Read) (is : IsOrder net order) where
  roots_hang : Hangs order (root_equation net)
  roots_hang = record { each = each }
    where
      each : (i : ℕ) (v : Read) (e f : Read → Option ℕ) → slice_get order i ≡ Some v → ((j : ℕ) (w : Read) → j < i → slice_get order j ≡ Some w → e w ≡ f w) → root_equation net e v ≡ root_equation net f v
      each i (read.Leaf k) e f at h =
          leaf_same e f (slice_index (clocks_before 0 net.leaves) k) (slice_get net.leaves k)
          (λ j r reads. let hangs : Reads net (read.Leaf k) r = record { place = j; is = reads } in let before = is.after i (read.Leaf k) r at hangs in h before.0 r before.1 before.2)
      each i (read.Node k) e f at h = refl

  module _ (roots : List (Option ℕ)) (n : ℕ) (rooted : Rooted net order roots n) where
    pub leaf_rooted : (k : ℕ) (l : Leaf) (x : Option ℕ) → slice_get order n ≡ Some (read.Leaf k) → slice_get net.leaves k ≡ Some l
        → x ≡ role_root (root_at roots) (slice_index (clocks_before 0 net.leaves) k) l.role → Rooted net order (set roots k x) (n + 1)
    leaf_rooted k l x at here is_x = record {
      room = length-set roots k x ∙ rooted.room;
      met =
          one_more order (root_equation net) is.once roots_hang n (read.Leaf k) (root_of roots) (root_of (set roots k x)) rooted.met at
          (ap (λ (o : Option (Option ℕ)). unwrap_or o None) (get_set_same roots k x (let within = slice_get_within net.leaves k l here in let long = rooted.room in omega (arith, within, long)))
          ∙ is_x ∙ sym (ap (leaf_root (root_at roots) (slice_index (clocks_before 0 net.leaves) k)) here))
          (λ j w here apart. others w apart);
    }
      where
        others : (w : Read) → (w ≡ read.Leaf k → ⊥) → root_of (set roots k x) w ≡ root_of roots w
        others (read.Leaf j) apart = ap (λ (o : Option (Option ℕ)). unwrap_or o None) (get_set_other roots k x j (λ e. apart (ap (λ (i : ℕ). read.Leaf i) (sym e))))
        others (read.Node j) apart = refl

    pub node_rooted : (k : ℕ) → slice_get order n ≡ Some (read.Node k) → Rooted net order roots (n + 1)
    node_rooted k at = record { room = rooted.room; met = one_more order (root_equation net) is.once roots_hang n (read.Node k) (root_of roots) (root_of roots) rooted.met at refl (λ j w here apart. refl) }

  pub all_rooted : (roots : List (Option ℕ)) (n : ℕ) → length order ≤ n → Rooted net order roots n → AreRoots net roots
  all_rooted roots n le rooted = record { inputs = inputs; driven = λ k l c at e. by l.role k l c refl at e }
    where
      met : (k : ℕ) (l : Leaf) → slice_get net.leaves k ≡ Some l → root_at roots k ≡ role_root (root_at roots) (slice_index (clocks_before 0 net.leaves) k) l.role
      met k l at =
          let place = is.all (read.Leaf k) (slice_get_within net.leaves k l at) in
          rooted.met.each place.0 (read.Leaf k) (let within = slice_get_within order place.0 (read.Leaf k) place.1 in omega (arith, within, le)) place.1
          ∙ ap (leaf_root (root_at roots) (slice_index (clocks_before 0 net.leaves) k)) at

      inputs : (m k : ℕ) → slice_get (clocks net) m ≡ Some k → root_at roots k ≡ Some m
      inputs m k e =
          let r = clock_at net.leaves 0 0 m k e in
          let place : r.place ≡ k = let same = r.is in omega (arith, same) in
          let at : slice_get net.leaves k ≡ Some r.leaf = ap (slice_get net.leaves) (sym place) ∙ r.at in
          let number : slice_index (clocks_before 0 net.leaves) k ≡ m = ap (slice_index (clocks_before 0 net.leaves)) (sym place) ∙ r.number ∙ (let plain : 0 + m ≡ m = omega arith in plain) in
          met k r.leaf at ∙ ap (role_root (root_at roots) (slice_index (clocks_before 0 net.leaves) k)) r.kind ∙ ap (λ (i : ℕ). Some i) number

      by : (r : Role) (k : ℕ) (l : Leaf) (c : Option ℕ) → l.role ≡ r → slice_get net.leaves k ≡ Some l → clock_driver r ≡ Some c → root_at roots k ≡ driven_clock (root_at roots) c
      by role.Input k l c is_r at e = cc
      by role.Clock k l c is_r at e = cc
      by (role.Output d) k l c is_r at e = cc
      by (role.Wire d) k l c is_r at e = cc
      by (role.Register d) k l c is_r at e = cc
      by (role.Reading d) k l c is_r at e = cc
      by (role.Pipe d) k l c is_r at e = cc
      by (role.ClockOutput b) k l c is_r at e = let same : b ≡ c = cc in met k l at ∙ ap (role_root (root_at roots) (slice_index (clocks_before 0 net.leaves) k)) is_r ∙ ap (driven_clock (root_at roots)) same
      by (role.ClockWire b) k l c is_r at e = let same : b ≡ c = cc in met k l at ∙ ap (role_root (root_at roots) (slice_index (clocks_before 0 net.leaves) k)) is_r ∙ ap (driven_clock (root_at roots)) same
