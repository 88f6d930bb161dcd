-- What kept leaves and nodes read and hang on is the same, under new numbers, and is kept too.
use Rattle.std.proofs.Common.{◌≡◌, ℕ, List, [], ◌∷◌, ◌++◌, map, Some, None, true, refl, ap, sym, ◌∙◌, subst, inr, option_map}
use Rattle.std.specs.Prelude.{slice_get, Option}
use Rattle.std.proofs.lemmas.Option.{slice_get_within}
use Rattle.fir_base.specs.Lists.{In}
use Rattle.fir_base.proofs.Elements.{get_in, there}
use Rattle.fir_base.proofs.Members.{in_left}
use Rattle.fir_net.specs.declared.leaf.Leaf.{Leaf}
use Rattle.fir_net.specs.declared.leaf.Reset.{Reset}
use Rattle.fir_net.specs.declared.leaf.ResetKind.{ResetKind}
use Rattle.fir_net.specs.declared.leaf.ResetKind.TheVariants.{Asynchronous, Synchronous}
use Rattle.fir_net.specs.declared.leaf.Role.{Role}
use Rattle.fir_net.specs.declared.leaf.Role.TheVariants as role
use Rattle.fir_net.specs.declared.net.FlatNet.{FlatNet}
use Rattle.fir_net.specs.declared.node.Node.{Node}
use Rattle.fir_net.specs.declared.node.Node.TheVariants as node
use Rattle.fir_net.specs.declared.reads.Read.{Read}
use Rattle.fir_net.specs.declared.reads.Read.TheVariants as read
use Rattle.fir_net.specs.working.Dependence.{IsOf, Reads, clock_reads, kind_reads, leaf_reads, node_reads, reads_of, reset_reads, role_reads, support_of}
use Rattle.fir_drop_dead.specs.working.IsLive.{optional_read, whole_leaf_reads, whole_reads, whole_reset_reads, whole_role_reads}
use Rattle.fir_drop_dead.specs.working.Marks.{Marked, has}
use Rattle.fir_drop_dead.specs.working.Moved.{kept_net, moved_leaf, moved_leaf_number, moved_node, moved_read, moved_reset, moved_role}
use Rattle.fir_drop_dead.specs.working.Needed.{AreNeeded}
use Rattle.fir_drop_dead.specs.working.Numbers.{place}
use Rattle.fir_drop_dead.proofs.KeptItems.{map_from, place_once}
use Rattle.fir_drop_dead.proofs.KeptLeaves.{moved_from, moved_there}
use Rattle.fir_drop_dead.proofs.MarkSteps.{IsLong, of_marked}

module _ (m : Marked) where
  abbrev over : List Read → List Read
  over = map (moved_read m)

  kind_moved : (k : ResetKind) (c i : Read) → kind_reads k (moved_read m c) (moved_read m i) ≡ over (kind_reads k c i)
  kind_moved Synchronous c i = refl
  kind_moved Asynchronous c i = refl

  reset_moved : (r : Option Reset) → reset_reads (option_map (moved_reset m) r) ≡ over (reset_reads r)
  reset_moved None = refl
  reset_moved (Some r) = kind_moved r.kind r.condition r.init

  clock_moved : (c : Option ℕ) → clock_reads (option_map (moved_leaf_number m) c) ≡ over (clock_reads c)
  clock_moved None = refl
  clock_moved (Some k) = refl

  role_reads_moved : (r : Role) → role_reads (moved_role m r) ≡ over (role_reads r)
  role_reads_moved role.Input = refl
  role_reads_moved role.Clock = refl
  role_reads_moved (role.Output r) = refl
  role_reads_moved (role.Wire r) = refl
  role_reads_moved (role.Register r) = reset_moved r.reset
  role_reads_moved (role.Reading r) = refl
  role_reads_moved (role.Pipe p) = refl
  role_reads_moved (role.ClockOutput c) = clock_moved c
  role_reads_moved (role.ClockWire c) = clock_moved c

  register_moved : (k : ℕ) (reset : Option Reset) (next : Option Read)
      → (read.Leaf (place m.leaves k) ∷ whole_reset_reads (option_map (moved_reset m) reset)) ++ optional_read (option_map (moved_read m) next)
      ≡ over ((read.Leaf k ∷ whole_reset_reads reset) ++ optional_read next)
  register_moved k None None = refl
  register_moved k None (Some n) = refl
  register_moved k (Some r) None = refl
  register_moved k (Some r) (Some n) = refl

  whole_role_moved : (r : Role) → whole_role_reads (moved_role m r) ≡ over (whole_role_reads r)
  whole_role_moved role.Input = refl
  whole_role_moved role.Clock = refl
  whole_role_moved (role.Output r) = refl
  whole_role_moved (role.Wire r) = refl
  whole_role_moved (role.Register r) = register_moved r.clock r.reset r.next
  whole_role_moved (role.Reading r) = refl
  whole_role_moved (role.Pipe p) = refl
  whole_role_moved (role.ClockOutput c) = clock_moved c
  whole_role_moved (role.ClockWire c) = clock_moved c

  support_moved : (n : Node) → support_of (moved_node m n) ≡ over (support_of n)
  support_moved (node.Literal v) = refl
  support_moved (node.Operation o) = refl
  support_moved (node.Mux x) = refl

  pub read_once : (r s : Read) → has m r ≡ true → has m s ≡ true → moved_read m r ≡ moved_read m s → r ≡ s
  read_once (read.Leaf j) (read.Leaf k) h g e = let same : place m.leaves j ≡ place m.leaves k = cc in ap read.Leaf (place_once m.leaves j k h g same)
  read_once (read.Leaf j) (read.Node k) h g e = cc
  read_once (read.Node j) (read.Leaf k) h g e = cc
  read_once (read.Node j) (read.Node k) h g e = let same : place m.nodes j ≡ place m.nodes k = cc in ap read.Node (place_once m.nodes j k h g same)

-- what a leaf or node hangs on is among all that it reads
reset_among : (r : Option Reset) (v : Read) → In (reset_reads r) v → In (whole_reset_reads r) v
reset_among None v n = n
reset_among (Some r) v n = by r.kind n
  where
    by : (k : ResetKind) → In (kind_reads k r.condition r.init) v → In (r.condition ∷ r.init ∷ []) v
    by Synchronous o = absurd o
    by Asynchronous o = o

role_among : (r : Role) (v : Read) → In (role_reads r) v → In (whole_role_reads r) v
role_among role.Input v n = n
role_among role.Clock v n = n
role_among (role.Output r) v n = n
role_among (role.Wire r) v n = n
role_among (role.Register r) v n = in_left (read.Leaf r.clock ∷ whole_reset_reads r.reset) (optional_read r.next) v (inr (reset_among r.reset v n))
role_among (role.Reading r) v n = n
role_among (role.Pipe p) v n = absurd n
role_among (role.ClockOutput c) v n = n
role_among (role.ClockWire c) v n = n

leaf_among : (o : Option Leaf) (v : Read) → In (leaf_reads o) v → In (whole_leaf_reads o) v
leaf_among None v n = n
leaf_among (Some l) v n = role_among l.role v n

pub reads_among : (net : FlatNet) (v r : Read) → In (reads_of net v) r → In (whole_reads net v) r
reads_among net (read.Leaf k) r n = leaf_among (slice_get net.leaves k) r n
reads_among net (read.Node k) r n = n

module _ (net : FlatNet) (m : Marked) (are : AreNeeded net m) where
  abbrev other : FlatNet
  other = kept_net m net

  long : IsLong net m
  long = record { leaves = are.leaves; nodes = are.nodes }

  pub of_net : (v : Read) → has m v ≡ true → IsOf net v
  of_net v h = of_marked net v m long h

  -- a kept one is of the new net, and each of the new net was kept
  pub of_moved : (v : Read) → has m v ≡ true → IsOf other (moved_read m v)
  of_moved (read.Leaf k) h =
      let l = there net.leaves k (of_net (read.Leaf k) h) in
      slice_get_within other.leaves (place m.leaves k) (moved_leaf m l.0) (moved_there (moved_leaf m) m.leaves net.leaves k l.0 l.1 h)
  of_moved (read.Node k) h =
      let n = there net.nodes k (of_net (read.Node k) h) in
      slice_get_within other.nodes (place m.nodes k) (moved_node m n.0) (moved_there (moved_node m) m.nodes net.nodes k n.0 n.1 h)

  pub record Old (v : Read) : Type 0 where
    pub read : Read
    pub marked : has m read ≡ true
    pub is : moved_read m read ≡ v

  pub old_of : (v : Read) → IsOf other v → Old v
  old_of (read.Leaf j) of =
      let l = there other.leaves j of in
      let r = moved_from (moved_leaf m) m.leaves net.leaves j l.0 l.1 in
      record { read = read.Leaf r.from.old; marked = r.from.marked; is = ap read.Leaf r.from.place }
  old_of (read.Node j) of =
      let n = there other.nodes j of in
      let r = moved_from (moved_node m) m.nodes net.nodes j n.0 n.1 in
      record { read = read.Node r.from.old; marked = r.from.marked; is = ap read.Node r.from.place }

  pub reads_moved : (v : Read) → has m v ≡ true → reads_of other (moved_read m v) ≡ map (moved_read m) (reads_of net v)
  reads_moved (read.Leaf k) h =
      let l = there net.leaves k (of_net (read.Leaf k) h) in
      ap leaf_reads (moved_there (moved_leaf m) m.leaves net.leaves k l.0 l.1 h) ∙ role_reads_moved m l.0.role
      ∙ sym (ap (λ (o : Option Leaf). map (moved_read m) (leaf_reads o)) l.1)
  reads_moved (read.Node k) h =
      let n = there net.nodes k (of_net (read.Node k) h) in
      ap node_reads (moved_there (moved_node m) m.nodes net.nodes k n.0 n.1 h) ∙ support_moved m n.0
      ∙ sym (ap (λ (o : Option Node). map (moved_read m) (node_reads o)) n.1)

  pub whole_moved : (v : Read) → has m v ≡ true → whole_reads other (moved_read m v) ≡ map (moved_read m) (whole_reads net v)
  whole_moved (read.Leaf k) h =
      let l = there net.leaves k (of_net (read.Leaf k) h) in
      ap whole_leaf_reads (moved_there (moved_leaf m) m.leaves net.leaves k l.0 l.1 h) ∙ whole_role_moved m l.0.role
      ∙ sym (ap (λ (o : Option Leaf). map (moved_read m) (whole_leaf_reads o)) l.1)
  whole_moved (read.Node k) h = reads_moved (read.Node k) h

  -- where one hangs on another in the new net
  pub record OldRead (v w : Read) : Type 0 where
    pub read : Read
    pub marked : has m read ≡ true
    pub is : moved_read m read ≡ w
    pub hangs : Reads net v read

  pub reads_old : (v w : Read) → has m v ≡ true → Reads other (moved_read m v) w → OldRead v w
  reads_old v w h hangs =
      let r = map_from (moved_read m) (reads_of net v) hangs.place w (subst (λ (rs : List Read). slice_get rs hangs.place ≡ Some w) (reads_moved v h) hangs.is) in
      record {
        read = r.0;
        marked = are.closed v h r.0 (reads_among net v r.0 (get_in (reads_of net v) hangs.place r.0 r.1));
        is = r.2;
        hangs = record { place = hangs.place; is = r.1 };
      }
