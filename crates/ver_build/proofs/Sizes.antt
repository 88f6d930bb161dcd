-- Each leaf with a name that is no clock, and each inner net, is a net of its width.
-- Names stand once. The width of a leaf is 1 or more, since it has bits, and at most 128.
use Rattle.std.proofs.Common.{◌≡◌, ℕ, ◌+◌, ◌≤◌, List, [], ◌++◌, Bool, true, false, not, nat_eq, map, refl, sym, inl, ◌⊎◌, ⊎_elim, subst, arith}
use Rattle.std.specs.Prelude.{slice_get, Option, Some, None, unwrap_or}
use Rattle.fir_base.specs.Lists.{In, Distinct}
use Rattle.std.proofs.lemmas.Option.{slice_get_within}
use Rattle.fir_base.proofs.Each.{all_from}
use Rattle.fir_base.proofs.Members.{in_map, in_left, in_right, in_either, in_flat_map, in_flat_map_from}
use Rattle.fir_base.proofs.Elements.{get_in}
use Rattle.fir_base.proofs.Twins.{distinct_right, distinct_joined, apart}
use Rattle.fir_base.proofs.Tests.{both}
use Rattle.fir_net.specs.declared.reads.Read.{Read}
use Rattle.fir_net.specs.declared.reads.Read.TheVariants as read
use Rattle.fir_net.specs.declared.leaf.Role.{Role}
use Rattle.fir_net.specs.declared.leaf.Leaf.{Leaf}
use Rattle.fir_net.specs.declared.node.Node.{Node}
use Rattle.fir_net.specs.declared.net.FlatNet.{FlatNet}
use Rattle.fir_net_names.specs.declared.name_table.NameTable.{NameTable}
use Rattle.fir_net.specs.working.IsNet.{node_type, IsLeaf}
use Rattle.fir_net.specs.working.IsWritable.{IsWritableRole}
use Rattle.fir_net_names.specs.working.LeafNamed.{somes, name_at}
use Rattle.ver_ast.specs.Nets.{SizedNet, width_among, names_of}
use Rattle.ver_ast.proofs.Widths.{declared_width}
use Rattle.ver_build.specs.declared.places.Places.{Places}
use Rattle.ver_build.specs.declared.right_sides.Inner.{Inner}
use Rattle.fir_net.specs.declared.array.Array.{Array}
use Rattle.fir_net.specs.declared.array.ArrayWrite.{ArrayWrite}
use Rattle.fir_net.specs.working.Arrays.{words_of}
use Rattle.ver_build.specs.declared.places.Guard.{Guard}
use Rattle.ver_build.specs.working.ArrayTexts.{guard_inners}
use Rattle.ver_build.specs.working.ArrayBlocks.{array_write_inners, guarded_write, write_inners}
use Rattle.ver_build.specs.working.Places.{guard_at, held_of, node_at, read_width}
use Rattle.ver_build.specs.working.Built.{inners, order_inners, reset_inners, node_inners, inners_at, read_inners, late_inners}
use Rattle.ver_build.proofs.Names.{Each, each_and, each_part}
use Rattle.ver_build.proofs.Premises.{Premises, some_bits, bits_named, Whole, Known}
use Rattle.ver_build.proofs.OrderedLeaves.{ordered_all, ordered_all_once, ordered_names, ordered_leaves, ordered_whole, ordered_known, ordered_once, ordered_inner}
use Rattle.ver_build.proofs.LeafKinds.{is_wire, has_name, is_net, sized_if, picked, picked_sized}
use Rattle.ver_build.proofs.Picked.{picked_named, picked_once}
use Rattle.ver_build.proofs.Nets.{inner_name, inner_sized, sizes, sizes_named}
use Rattle.ver_build.proofs.Standing.{DeclaresInners}
use Rattle.ver_build.proofs.NodeNets.{IsLiteral, IsEmpty, IsNetted, node_view, given_inners, no_inners, empty_inners, netted_inners}
use Rattle.ver_build.proofs.ResetNames.{inners_numbered}
use Rattle.ver_build.proofs.InnerNames.{all_once}
use Rattle.ver_build.proofs.Words.{NetOf, net_of}
use Rattle.ver_build.proofs.ReadingNets.{IsRead, leaf_view, own_reading, reading_is, reading_own}
use Rattle.ver_build.proofs.StateArrays.{IsStateArray, array_at}
use Rattle.ver_build.proofs.WriteLists.{in_writes, in_writes_from}

-- a net of that name and width, from 1 to 128
pub record IsSized (nets : List SizedNet) (name : List ℕ) (w : ℕ) : Type 0 where
  pub one : 1 ≤ w
  pub narrow : w ≤ 128
  pub among : In nets (name, w)
  pub wide : width_among nets name ≡ w

abbrev pub LeafSized : List SizedNet → Leaf → Option (List ℕ) → Type 0
LeafSized nets l None = has_name l ≡ false
LeafSized nets l (Some name) = is_net l.role ≡ true → IsSized nets name l.width

abbrev PartIn : {A : Type 0} → (A → Option (List ℕ) → List SizedNet) → List SizedNet → A → Option (List ℕ) → Type 0
PartIn f nets x n = (y : SizedNet) → In (f x n) y → In nets y

abbrev leaf_part : Leaf → Option (List ℕ) → List SizedNet
leaf_part l n = sized_if (is_net l.role) l.width n

-- what has a name has bits
pub named_bits : (l : Leaf) → has_name l ≡ true → 1 ≤ l.width
named_bits l h = some_bits l.width (both (not (is_wire l.role)) (not (nat_eq l.width 0)) h).1

-- and what has bits and is no wire has a name
pub unnamed_bits : (l : Leaf) → is_wire l.role ≡ false → has_name l ≡ false → l.width ≡ 0
unnamed_bits l plain h = bits_named l.role l.width None plain h

-- a leaf with a name that is a net
pub leaf_is_sized : (nets : List SizedNet) (l : Leaf) (n : Option (List ℕ)) → LeafSized nets l n → is_net l.role ≡ true → (name : List ℕ)
    → n ≡ Some name → IsSized nets name l.width
leaf_is_sized nets l None h k name e = absurd (cc)
leaf_is_sized nets l (Some other) h k name e =
    let same : other ≡ name = cc in
    subst (λ (m : List ℕ). IsSized nets m l.width) same (h k)

-- the node of an inner net
pub record InnerOf (net : FlatNet) (p : Places) (i : Inner) : Type 0 where
  pub number : ℕ
  pub node : Node
  pub at : slice_get net.nodes number ≡ Some node
  pub netted : IsNetted p node (node_at p.nodes number)
  pub inside : In (node_inners p node (node_at p.nodes number).helpers netted.name) i

-- what a leaf reads of an array by an inner net
pub record ReadingOf (net : FlatNet) (t : NameTable) (p : Places) (i : Inner) : Type 0 where
  pub number : ℕ
  pub is : IsRead net p number
  pub inside : In (own_reading net t p number is) i

-- the write of an inner net
pub record GuardOf (net : FlatNet) (t : NameTable) (p : Places) (i : Inner) : Type 0 where
  pub number : ℕ
  pub among : In net.array_order number
  pub array : IsStateArray net t number
  pub place : ℕ
  pub write : ArrayWrite
  pub at : slice_get array.array.writes place ≡ Some write
  pub guard : Guard
  pub has : guard_at p.guards number place ≡ Some guard
  pub inside : In (guard_inners array.array.words (read_width net write.address) (held_of p write.address) (held_of p write.condition) guard) i

-- what an inner net is of
pub data InnerKind (net : FlatNet) (t : NameTable) (p : Places) (i : Inner) : Type 0 where
  of_node : InnerOf net p i → InnerKind net t p i
  of_reading : ReadingOf net t p i → InnerKind net t p i
  of_reset : NetOf net t p i → InnerKind net t p i
  of_guard : GuardOf net t p i → InnerKind net t p i

abbrev pub LeafFact : FlatNet → List SizedNet → Leaf → Option (List ℕ) → Type 0
LeafFact net nets l n = LeafSized nets l n × IsLeaf net.leaves net.nodes l × IsWritableRole l.role

module _ (net : FlatNet) (t : NameTable) (p : Places) (order : List Read) (is : Premises net t p order) where
  abbrev all_inners : List Inner
  all_inners = inners net t p order

  once : Distinct (somes (ordered_names net t))
  once = ordered_once net t is.whole is.table

  -- a name of a leaf that is so picked is among those of leaves and arrays
  picked_all : (q : Role → Bool) (x : List ℕ) → In (picked q (ordered_names net t) (ordered_leaves net)) x → In (ordered_all net t) x
  picked_all q x m =
      in_left (somes (ordered_names net t)) (somes (map (name_at t.arrays) net.array_order)) x (picked_named q (ordered_names net t) (ordered_leaves net) x m)

  -- the names of all
  pub names_once : Distinct (ordered_all net t ++ map inner_name all_inners)
  names_once =
      let guards = is.places.guards in
      all_once (ordered_all net t) guards.last (map inner_name all_inners) (ordered_all_once net t is.whole is.table) guards.near
      (ordered_inner net t is.whole is.table 0 guards.last (map inner_name all_inners) (inners_numbered net t p order is))

  -- a name of a leaf is none of an inner net
  pub no_inner : (q : Role → Bool) (x : List ℕ) → In (picked q (ordered_names net t) (ordered_leaves net)) x → In (map inner_name all_inners) x → ⊥
  no_inner q x m n =
      apart (ordered_all net t) (map inner_name all_inners) names_once x (picked_all q x m) n

  pub sizes_once : Distinct (names_of (sizes net t p order))
  sizes_once =
      subst Distinct (sym (sizes_named net t p order))
      (distinct_joined (picked is_net (ordered_names net t) (ordered_leaves net)) (map inner_name all_inners) (picked_once is_net (ordered_names net t) (ordered_leaves net) once)
      (distinct_right (ordered_all net t) (map inner_name all_inners) names_once)
      (λ x m n. apart (ordered_all net t) (map inner_name all_inners) names_once x (picked_all is_net x m) n))

  leaf_size : (l : Leaf) (n : Option (List ℕ)) → Whole net l n → PartIn leaf_part (sizes net t p order) l n → LeafSized (sizes net t p order) l n
  leaf_size l None h k = h.0
  leaf_size l (Some name) h k =
      λ is.
      let m : In (sizes net t p order) (name, l.width) = k (name, l.width) (rw is (inl refl)) in
      record { one = named_bits l h.0; narrow = h.1.narrow; among = m; wide = declared_width (sizes net t p order) sizes_once name l.width m }

  pub leaf_sizes : Each (LeafSized (sizes net t p order)) (ordered_names net t) (ordered_leaves net)
  leaf_sizes =
      let whole = ordered_whole net t is.whole is.table in
      let parts =
      each_part (Whole net) leaf_part (sizes net t p order) (ordered_names net t) (ordered_leaves net) whole
      (in_left (picked_sized is_net (ordered_names net t) (ordered_leaves net)) (map inner_sized all_inners)) in
      each_and (Whole net) (PartIn leaf_part (sizes net t p order)) (LeafSized (sizes net t p order)) leaf_size (ordered_names net t) (ordered_leaves net)
      whole parts

  -- each leaf with what is known of it
  pub leaf_facts : Each (LeafFact net (sizes net t p order)) (ordered_names net t) (ordered_leaves net)
  leaf_facts =
      each_and (LeafSized (sizes net t p order)) (Known net) (LeafFact net (sizes net t p order))
      (λ l n h k. (h, k.1, k.2)) (ordered_names net t) (ordered_leaves net) leaf_sizes (ordered_known net t p order is)

  -- the inner nets of a node are among all
  pub inners_among : (k : ℕ) (n : Node) (h : IsNetted p n (node_at p.nodes k)) → slice_get net.nodes k ≡ Some n → (i : Inner)
      → In (node_inners p n (node_at p.nodes k).helpers h.name) i → In all_inners i
  inners_among k n h at i m =
      let place = is.ordered.all (read.Node k) (slice_get_within net.nodes k n at) in
      let given : In (read_inners net t p (read.Node k)) i = rw (at, netted_inners p n (node_at p.nodes k) h) m in
      in_left (order_inners net t p order) (late_inners net p) i
      (in_flat_map (read_inners net t p) order (read.Node k) i (get_in order place.0 (read.Node k) place.1) given)

  from_node : (k : ℕ) (n : Node) (i : Inner) → slice_get net.nodes k ≡ Some n → In (given_inners p n (node_at p.nodes k)) i → InnerOf net p i
  from_node k n i at m =
      let here = node_at p.nodes k in
      ⊎_elim
      (λ (l : IsLiteral n here). absurd (rw (no_inners p n here l) at m))
      (λ (o : IsEmpty n here ⊎ IsNetted p n here).
      ⊎_elim
      (λ (e : IsEmpty n here). absurd (rw (empty_inners p n here e) at m))
      (λ (h : IsNetted p n here). record { number = k; node = n; at = at; netted = h; inside = rw (netted_inners p n here h) at m })
      o)
      (node_view p n here (is.places.nodes.held.each k n at))

  order_kind : (i : Inner) → In (order_inners net t p order) i → InnerKind net t p i
  order_kind i m =
      let r = in_flat_map_from (read_inners net t p) order i m in
      by_read r.0 r.2
    where
      by_node : (k : ℕ) (o : Option Node) → slice_get net.nodes k ≡ o → In (inners_at p o (node_at p.nodes k)) i → InnerKind net t p i
      by_node k None at h = absurd h
      by_node k (Some n) at h = of_node (from_node k n i at h)

      by_read : (r : Read) → In (read_inners net t p r) i → InnerKind net t p i
      by_read (read.Leaf k) h =
          ⊎_elim
          (λ (none : read_inners net t p (read.Leaf k) ≡ []). absurd (subst (λ (xs : List Inner). In xs i) none h))
          (λ (own : IsRead net p k). of_reading (record { number = k; is = own; inside = subst (λ (xs : List Inner). In xs i) (reading_is net t p k own) h }))
          (leaf_view net t p is.places.nodes.read k)
      by_read (read.Node k) h = by_node k (slice_get net.nodes k) refl h

  guard_given : (k : ℕ) → In net.array_order k → (a : IsStateArray net t k) (j : ℕ) (w : ArrayWrite) → slice_get a.array.writes j ≡ Some w
      → (o : Option Guard) → guard_at p.guards k j ≡ o → (i : Inner) → In (guarded_write net p a.array.words w o) i → GuardOf net t p i
  guard_given k m a j w at None has i n = absurd n
  guard_given k m a j w at (Some g) has i n =
      record { number = k; among = m; array = a; place = j; write = w; at = at; guard = g; has = has; inside = n }

  guard_of : (i : Inner) → In (write_inners net p) i → GuardOf net t p i
  guard_of i m =
      let from = in_flat_map_from (λ (k : ℕ). array_write_inners net p k (slice_get net.arrays k)) net.array_order i m in
      let a = array_at net t is.whole is.table from.0 from.1 in
      let own = subst (λ (o : Option Array). In (array_write_inners net p from.0 o) i) a.at from.2 in
      let w = in_writes_from (λ j w. guarded_write net p a.array.words w (guard_at p.guards from.0 j)) 0 a.array.writes i own in
      let start : 0 + w.0 ≡ w.0 = omega arith in
      guard_given from.0 from.1 a w.0 w.1 w.2 (guard_at p.guards from.0 w.0) refl i
      (subst (λ (j : ℕ). In (guarded_write net p a.array.words w.1 (guard_at p.guards from.0 j)) i) start w.3)

  pub inner_kind : (i : Inner) → In all_inners i → InnerKind net t p i
  inner_kind i m =
      ⊎_elim
      (λ (o : In (order_inners net t p order) i). order_kind i o)
      (λ (l : In (late_inners net p) i).
      ⊎_elim
      (λ (r : In (reset_inners net p) i). of_reset (net_of net t p is.whole is.table is.pipes i r))
      (λ (g : In (write_inners net p) i). of_guard (guard_of i g))
      (in_either (reset_inners net p) (write_inners net p) i l))
      (in_either (order_inners net t p order) (late_inners net p) i m)

  -- the inner nets of what is read and of writes are among all
  pub reading_among : (k : ℕ) (h : IsRead net p k) (i : Inner) → In (own_reading net t p k h) i → In all_inners i
  reading_among k h i m =
      let place = is.ordered.all (read.Leaf k) (slice_get_within net.leaves k h.leaf h.at) in
      in_left (order_inners net t p order) (late_inners net p) i
      (in_flat_map (read_inners net t p) order (read.Leaf k) i (get_in order place.0 (read.Leaf k) place.1)
      (subst (λ (xs : List Inner). In xs i) (sym (reading_is net t p k h)) m))

  pub guard_among : (k : ℕ) → In net.array_order k → (a : IsStateArray net t k) (j : ℕ) (w : ArrayWrite) → slice_get a.array.writes j ≡ Some w
      → (g : Guard) → guard_at p.guards k j ≡ Some g → (i : Inner)
      → In (guard_inners a.array.words (read_width net w.address) (held_of p w.address) (held_of p w.condition) g) i → In all_inners i
  guard_among k m a j w at g has i n =
      let start : j ≡ 0 + j = omega arith in
      let own : In (guarded_write net p a.array.words w (guard_at p.guards k j)) i =
      subst (λ (o : Option Guard). In (guarded_write net p a.array.words w o) i) (sym has) n in
      let made : In (array_write_inners net p k (Some a.array)) i =
      in_writes (λ j w. guarded_write net p a.array.words w (guard_at p.guards k j)) 0 a.array.writes j w i at
      (subst (λ (x : ℕ). In (guarded_write net p a.array.words w (guard_at p.guards k x)) i) start own) in
      in_right (order_inners net t p order) (late_inners net p) i
      (in_right (reset_inners net p) (write_inners net p) i
      (in_flat_map (λ (k : ℕ). array_write_inners net p k (slice_get net.arrays k)) net.array_order k i m
      (subst (λ (o : Option Array). In (array_write_inners net p k o) i) (sym a.at) made)))

  pub inner_among : (i : Inner) → In all_inners i → In (sizes net t p order) (inner_sized i)
  inner_among i m =
      in_right (picked_sized is_net (ordered_names net t) (ordered_leaves net)) (map inner_sized all_inners) (inner_sized i) (in_map inner_sized all_inners i m)

  pub inner_declared : (i : Inner) → In all_inners i → width_among (sizes net t p order) i.name ≡ i.width
  inner_declared i m = declared_width (sizes net t p order) sizes_once i.name i.width (inner_among i m)

  -- the nets of a node are declared
  pub node_declared : (k : ℕ) (n : Node) (h : IsNetted p n (node_at p.nodes k)) → slice_get net.nodes k ≡ Some n
      → DeclaresInners (sizes net t p order) (node_inners p n (node_at p.nodes k).helpers h.name)
  node_declared k n h at =
      let here = node_inners p n (node_at p.nodes k).helpers h.name in
      all_from (λ i. width_among (sizes net t p order) i.name ≡ i.width) here (λ i m. inner_declared i (inners_among k n h at i m))

  pub own_declared : (k : ℕ) (n : Node) (h : IsNetted p n (node_at p.nodes k)) → slice_get net.nodes k ≡ Some n
      → width_among (sizes net t p order) h.name ≡ (node_type n).width
  own_declared k n h at = inner_declared _ (inners_among k n h at _ h.inside)

  -- so are those of what is read and of writes
  pub all_declared : (xs : List Inner) → ((i : Inner) → In xs i → In all_inners i) → DeclaresInners (sizes net t p order) xs
  all_declared xs among = all_from (λ i. width_among (sizes net t p order) i.name ≡ i.width) xs (λ i m. inner_declared i (among i m))

  pub reading_declared : (k : ℕ) (h : IsRead net p k) → width_among (sizes net t p order) h.netted.name ≡ h.leaf.width
  reading_declared k h =
      let own =
      reading_own (unwrap_or (name_at t.arrays h.read.array) []) (words_of net.arrays h.read.array) h.leaf.width (read_width net h.read.address)
      (held_of p h.read.address) (held_of p h.read.enable) (node_at p.readings k).helpers h.netted.name in
      inner_declared _ (reading_among k h _ own.1)
