-- The entries that were put are an order of the folded net.
use Rattle.std.proofs.Common.{◌≡◌, ℕ, ◌<◌, List, [], ◌∷◌, length, map, Bool, true, refl, sym, ap, ◌∙◌, subst, arith}
use Rattle.std.specs.Prelude.{slice_get, Option, Some, None, option_map}
use Rattle.std.proofs.lemmas.List.{length-map}
use Rattle.std.proofs.lemmas.Option.{slice_get-map, slice_get_within}
use Rattle.fir_base.specs.Lists.{In}
use Rattle.fir_base.proofs.Elements.{all_there, get_in, number_of}
use Rattle.fir_net.specs.declared.leaf.Leaf.{Leaf}
use Rattle.fir_net.specs.declared.leaf.Reset.{Reset}
use Rattle.fir_net.specs.declared.leaf.ResetKind.{ResetKind}
use Rattle.fir_net.specs.declared.leaf.ResetKind.TheVariants.{Synchronous, Asynchronous}
use Rattle.fir_net.specs.declared.leaf.Role.{Role}
use Rattle.fir_net.specs.declared.leaf.Role.TheVariants as role
use Rattle.fir_net.specs.declared.net.FlatNet.{FlatNet}
use Rattle.fir_net.specs.declared.reads.Read.{Read}
use Rattle.fir_net.specs.declared.reads.Read.TheVariants as read
use Rattle.fir_net.specs.working.Dependence.{IsOf, clock_reads, kind_reads, leaf_reads, reads_of, reset_reads, role_reads}
use Rattle.fir_net.specs.working.IsNet.{CanBeClock, IsClock, IsLeaf, IsNet, IsRole}
use Rattle.fir_net.specs.working.IsOrder.{IsOrder}
use Rattle.fir_net.specs.working.Settled.{driver, is_clock}
use Rattle.fir_fold.specs.working.FoldedNet.{folded_net}
use Rattle.fir_fold.specs.working.Standing.{leaf_read, reset_read, role_read}
use Rattle.fir_fold.specs.working.Walking.{IsWalked, StandsForLeaf, Walking, leaf, literal, of_driver, read_by, reads_in}
use Rattle.fir_fold.proofs.FoldedNets.{all_done, stood}

clock_undriven : (r : Role) (d : Read) → is_clock r ≡ true → driver r ≡ Some d → ⊥
clock_undriven role.Input d e f = cc
clock_undriven role.Clock d e f = cc
clock_undriven (role.Output r) d e f = cc
clock_undriven (role.Wire r) d e f = cc
clock_undriven (role.Register r) d e f = cc
clock_undriven (role.Reading r) d e f = cc
clock_undriven (role.Pipe p) d e f = cc
clock_undriven (role.ClockOutput c) d e f = cc
clock_undriven (role.ClockWire c) d e f = cc

module _ (net : FlatNet) (order : List Read) (ordered : IsOrder net order) (whole : IsNet net) (w : Walking) (h : IsWalked net order (length order) w) where
  -- a clock is read as itself
  itself_by : (k : ℕ) (l : Leaf) → is_clock l.role ≡ true → StandsForLeaf net.leaves k l w → read_by w (read.Leaf k) ≡ read.Leaf k
  itself_by k l clock (literal d v j i drives reads is stands place) = absurd (clock_undriven l.role d clock drives)
  itself_by k l clock (of_driver d drives same typed) = absurd (clock_undriven l.role d clock drives)
  itself_by k l clock (leaf none itself) = itself

  same_leaf : (l m : Leaf) (k : ℕ) → slice_get net.leaves k ≡ Some l → slice_get net.leaves k ≡ Some m → l ≡ m
  same_leaf l m k a b = let e : Some l ≡ Some m = sym a ∙ b in cc

  clock_itself : (k : ℕ) → IsClock net.leaves k → read_by w (read.Leaf k) ≡ read.Leaf k
  clock_itself k c =
      let s = (stood net order ordered whole w h (read.Leaf k) (slice_get_within net.leaves k c.0 c.1)).stands in
      itself_by k s.0 (ap (λ (l : Leaf). is_clock l.role) (same_leaf s.0 c.0 k s.1 c.1) ∙ c.2) s.2

  clock_reads_over : (c : Option ℕ) → CanBeClock net.leaves c → clock_reads c ≡ map (read_by w) (clock_reads c)
  clock_reads_over None can = refl
  clock_reads_over (Some k) can = ap (λ (r : Read). r ∷ []) (sym (clock_itself k can))

  kind_reads_over : (kind : ResetKind) (c i : Read) → kind_reads kind (read_by w c) (read_by w i) ≡ map (read_by w) (kind_reads kind c i)
  kind_reads_over Synchronous c i = refl
  kind_reads_over Asynchronous c i = refl

  reset_reads_over : (r : Option Reset) → reset_reads (option_map (reset_read (read_by w)) r) ≡ map (read_by w) (reset_reads r)
  reset_reads_over None = refl
  reset_reads_over (Some r) = kind_reads_over r.kind r.condition r.init

  role_reads_over : (signed : Bool) (width : ℕ) (r : Role) → IsRole net.leaves net.nodes signed width r → role_reads (role_read (read_by w) r) ≡ map (read_by w) (role_reads r)
  role_reads_over signed width role.Input is = refl
  role_reads_over signed width role.Clock is = refl
  role_reads_over signed width (role.Output r) is = refl
  role_reads_over signed width (role.Wire r) is = refl
  role_reads_over signed width (role.Register r) is = reset_reads_over r.reset
  role_reads_over signed width (role.Reading r) is = refl
  role_reads_over signed width (role.Pipe p) is = refl
  role_reads_over signed width (role.ClockOutput c) is = clock_reads_over c is.1
  role_reads_over signed width (role.ClockWire c) is = clock_reads_over c is.1

  -- what an entry hangs on in the folded net is what it read on the way
  leaf_reads_over : (k : ℕ) (o : Option Leaf) → slice_get net.leaves k ≡ o → leaf_reads (option_map (leaf_read (read_by w)) o) ≡ map (read_by w) (leaf_reads o)
  leaf_reads_over k None at = refl
  leaf_reads_over k (Some l) at = role_reads_over l.signed l.width l.role (all_there (IsLeaf net.leaves net.nodes) net.leaves whole.leaves k l at).driven

  pub reads_over : (v : Read) → reads_of (folded_net net w) v ≡ reads_in net.leaves w v
  reads_over (read.Leaf k) = ap leaf_reads (slice_get-map (leaf_read (read_by w)) net.leaves k) ∙ leaf_reads_over k (slice_get net.leaves k) refl
  reads_over (read.Node j) = refl

  of_entry : (v : Read) → In w.entries v → IsOf (folded_net net w) v
  of_entry (read.Leaf k) i =
      let d = h.only_leaves k i in
      let low : k < length net.leaves = ordered.only d.place (read.Leaf k) d.is in
      let long = length-map net.leaves (leaf_read (read_by w)) in
      omega (arith, low, long)
  of_entry (read.Node j) i = h.only_nodes j i

  entry_of : (v : Read) → IsOf (folded_net net w) v → In w.entries v
  entry_of (read.Leaf k) of =
      let long = length-map net.leaves (leaf_read (read_by w)) in
      let low : k < length net.leaves = omega (arith, of, long) in
      h.leaves_placed k (all_done net order ordered whole w h (read.Leaf k) low)
  entry_of (read.Node j) of = h.nodes_placed j of

  pub ordered_folded : IsOrder (folded_net net w) w.entries
  ordered_folded = record {
    only = λ i v at. of_entry v (get_in w.entries i v at);
    once = h.placed.once;
    after = λ i v x at r.
        let among = get_in (reads_of (folded_net net w) v) r.place x r.is in
        let b = h.placed.after i v x at (subst (λ (rs : List Read). In rs x) (reads_over v) among) in
        (b.place, b.before, b.is);
    all = λ v of. number_of w.entries v (entry_of v of);
  }
