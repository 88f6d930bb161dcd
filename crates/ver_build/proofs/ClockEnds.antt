-- Where a clock leaf has a clock, its drivers end at that clock input. This has one bit, so it has a name and is a port.
use Rattle.std.proofs.Common.{◌≡◌, ℕ, List, [], Bool, refl, sym, ap, ◌∙◌, subst, arith}
use Rattle.std.specs.Prelude.{slice_get, Option, Some, None, unwrap_or}
use Rattle.std.proofs.lemmas.Option.{slice_get_within}
use Rattle.fir_base.specs.Lists.{In}
use Rattle.fir_base.proofs.Elements.{there}
use Rattle.fir_net.specs.declared.reads.Read.{Read}
use Rattle.fir_net.specs.declared.reads.Read.TheVariants as read
use Rattle.fir_net.specs.declared.leaf.Role.{Role}
use Rattle.fir_net.specs.declared.leaf.Role.TheVariants as role
use Rattle.fir_net.specs.declared.leaf.Leaf.{Leaf}
use Rattle.fir_net.specs.declared.net.FlatNet.{FlatNet}
use Rattle.fir_net_names.specs.declared.name_table.NameTable.{NameTable}
use Rattle.fir_net.specs.working.Dependence.{IsOf, Reads}
use Rattle.fir_net_names.specs.working.LeafNamed.{name_at}
use Rattle.fir_net.specs.working.Settled.{clock_driver}
use Rattle.ver_ast.specs.Nets.{clocks}
use Rattle.ver_build.specs.declared.places.Places.{Places}
use Rattle.ver_build.specs.working.Places.{clock_in, place_clock, placed, driven_clock_in}
use Rattle.fir_net.specs.working.IsWritable.{EndsAt, input as ends_there, driven as ends_behind}
use Rattle.ver_build.specs.working.BlockRegisters.{EndsAtInput, input, handed_on}
use Rattle.ver_build.proofs.AlongOrder.{along_order}
use Rattle.ver_build.proofs.Premises.{Premises, LeafNamed}
use Rattle.ver_build.proofs.TableLeaves.{leaf_named}
use Rattle.ver_build.proofs.OrderedLeaves.{ordered_picked}
use Rattle.ver_build.proofs.Parts.{in_parts}
use Rattle.ver_build.proofs.LeafKinds.{is_wire, is_clock_input}
use Rattle.ver_build.proofs.Nets.{clocks_are}
use Rattle.ver_build.proofs.Sizes.{unnamed_bits}
use Rattle.ver_build.proofs.ReadsStand.{leaf_at, leaf_read}

-- a clock input, with its name
pub record IsClockInput (net : FlatNet) (t : NameTable) (k : ℕ) : Type 0 where
  pub leaf : Leaf
  pub at : slice_get net.leaves k ≡ Some leaf
  pub input : leaf.role ≡ role.Clock
  pub name : List ℕ
  pub named : name_at t.leaves k ≡ Some name

-- a clock leaf whose drivers end at that clock input
pub record IsClockedBy (net : FlatNet) (t : NameTable) (j k : ℕ) : Type 0 where
  pub clock : IsClockInput net t k
  pub ends : EndsAtInput net j
  pub there : EndsAt net j k

module _ (net : FlatNet) (t : NameTable) (p : Places) (order : List Read) (is : Premises net t p order) where
  -- what the places say of a clock leaf
  pub clock_at : (k : ℕ) (l : Leaf) → slice_get net.leaves k ≡ Some l
      → clock_in p.leaves k ≡ place_clock (placed p.leaves p.nodes p.readings (name_at t.leaves k) k l.signed l.width l.role)
  clock_at k l at = ap place_clock (is.places.leaves.each k l at)

  pub clock_input : (k : ℕ) (l : Leaf) → slice_get net.leaves k ≡ Some l → l.role ≡ role.Clock → IsClockInput net t k
  clock_input k l at e = by_name (name_at t.leaves k) refl (leaf_named net is.whole t is.table k l at)
    where
      one : l.width ≡ 1
      one = let driven = (leaf_at net t p order is k l at).driven in rw e at driven

      by_name : (n : Option (List ℕ)) → name_at t.leaves k ≡ n → LeafNamed l n → IsClockInput net t k
      by_name None named has = let none : l.width ≡ 0 = unnamed_bits l (ap is_wire e) has in absurd (omega (arith, one))
      by_name (Some name) named has = record { leaf = l; at = at; input = e; name = name; named = named }

  -- where the drivers of a leaf end
  abbrev Ends : Read → Type 0
  Ends r = (j k : ℕ) → r ≡ read.Leaf j → clock_in p.leaves j ≡ Some k → IsClockedBy net t j k

  driven_ends : (j : ℕ) (l : Leaf) (r : Role) (c : Option ℕ) (k : ℕ) → slice_get net.leaves j ≡ Some l → l.role ≡ r → clock_driver r ≡ Some c
      → ((i : ℕ) → c ≡ Some i → Reads net (read.Leaf j) (read.Leaf i)) → ((w : Read) → Reads net (read.Leaf j) w → Ends w)
      → driven_clock_in p.leaves c ≡ Some k → IsClockedBy net t j k
  driven_ends j l r None k at e d reads below ends = absurd (cc)
  driven_ends j l r (Some i) k at e d reads below ends =
      let first = below (read.Leaf i) (reads i refl) i k refl ends in
      record {
        clock = first.clock;
        ends = handed_on j i l at (ap clock_driver e ∙ d) first.ends;
        there = ends_behind j i k l at (ap clock_driver e ∙ d) first.there;
      }

  role_ends : (j : ℕ) (l : Leaf) (r : Role) (k : ℕ) → slice_get net.leaves j ≡ Some l → l.role ≡ r
      → ((w : Read) → Reads net (read.Leaf j) w → Ends w) → place_clock (placed p.leaves p.nodes p.readings (name_at t.leaves j) j l.signed l.width r) ≡ Some k
      → IsClockedBy net t j k
  role_ends j l role.Clock k at e below ends =
      let same : j ≡ k = cc in
      record {
        clock = subst (IsClockInput net t) same (clock_input j l at e);
        ends = input j l at e;
        there = subst (EndsAt net j) same (ends_there j l at e);
      }
  role_ends j l (role.ClockOutput c) k at e below ends =
      driven_ends j l (role.ClockOutput c) c k at e refl (λ i same. leaf_read net j l (role.ClockOutput c) 0 (read.Leaf i) at e (rw same refl)) below ends
  role_ends j l (role.ClockWire c) k at e below ends =
      driven_ends j l (role.ClockWire c) c k at e refl (λ i same. leaf_read net j l (role.ClockWire c) 0 (read.Leaf i) at e (rw same refl)) below ends
  role_ends j l _ k at e below ends = absurd (cc)

  ends_step : (v : Read) → IsOf net v → ((w : Read) → Reads net v w → Ends w) → Ends v
  ends_step (read.Leaf i) of below j k e ends =
      let same : i ≡ j = cc in
      let l = there net.leaves i of in
      subst (λ (x : ℕ). IsClockedBy net t x k) same
      (role_ends i l.0 l.0.role k l.1 refl below (sym (clock_at i l.0 l.1) ∙ ap (clock_in p.leaves) same ∙ ends))
  ends_step (read.Node i) of below j k e ends = absurd (cc)

  pub ends_at : (j : ℕ) (l : Leaf) (k : ℕ) → slice_get net.leaves j ≡ Some l → clock_in p.leaves j ≡ Some k → IsClockedBy net t j k
  ends_at j l k at ends = along_order net order is.ordered Ends ends_step (read.Leaf j) (slice_get_within net.leaves j l at) j k refl ends

  -- a clock leaf whose drivers end at a clock input has a clock
  handed_to : (j : ℕ) (r : Role) (s : Bool) (w k : ℕ) → clock_driver r ≡ Some (Some j)
      → place_clock (placed p.leaves p.nodes p.readings (name_at t.leaves k) k s w r) ≡ clock_in p.leaves j
  handed_to j (role.ClockOutput c) s w k d = let c_is : c ≡ Some j = cc in ap (driven_clock_in p.leaves) c_is
  handed_to j (role.ClockWire c) s w k d = let c_is : c ≡ Some j = cc in ap (driven_clock_in p.leaves) c_is
  handed_to j _ s w k d = absurd (cc)

  pub has_clock : (k : ℕ) → EndsAtInput net k → (c : ℕ) × (clock_in p.leaves k ≡ Some c)
  has_clock k (input i l at e) =
      (i, clock_at i l at ∙ ap (λ (r : Role). place_clock (placed p.leaves p.nodes p.readings (name_at t.leaves i) i l.signed l.width r)) e)
  has_clock k (handed_on i j l at d ends) =
      let first = has_clock j ends in
      (first.0, clock_at i l at ∙ handed_to j l.role l.signed l.width i d ∙ first.1)

  pub clock_is_port : (k : ℕ) → IsClockInput net t k → In (clocks (in_parts net t p order)) (unwrap_or (name_at t.leaves k) [])
  clock_is_port k c =
      rw c.named (subst (λ (ns : List (List ℕ)). In ns c.name) (sym (clocks_are net t p order))
      (ordered_picked net t is.whole is.table is_clock_input k c.leaf c.name c.at (ap is_clock_input c.input) c.named))
