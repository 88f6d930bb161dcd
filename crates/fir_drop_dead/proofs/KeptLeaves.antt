-- The leaves and nodes of a net of what is kept: each comes from one of the old net, and all that is read there can be read.
use Rattle.std.proofs.Common.{◌≡◌, ℕ, ◌<◌, List, map, take, Some, Bool, true, ap, sym, ◌∙◌, subst, arith, unwrap_or, option_map, length-take}
use Rattle.std.specs.Prelude.{slice_get, Option}
use Rattle.std.proofs.lemmas.Option.{slice_get_within}
use Rattle.fir_base.specs.Lists.{In}
use Rattle.fir_base.proofs.Elements.{there}
use Rattle.fir_bits.specs.Forms.{no_type}
use Rattle.fir_net.specs.declared.leaf.Leaf.{Leaf}
use Rattle.fir_net.specs.declared.net.FlatNet.{FlatNet}
use Rattle.fir_net.specs.declared.node.Node.{Node}
use Rattle.fir_net.specs.declared.reads.Read.{Read}
use Rattle.fir_net.specs.declared.reads.Read.TheVariants as read
use Rattle.fir_net.specs.working.IsNet.{CanRead, IsClock, node_type, read_type}
use Rattle.fir_net.specs.working.Values.{type_of_leaf}
use Rattle.fir_drop_dead.specs.working.IsLive.{whole_leaf_reads, whole_role_reads}
use Rattle.fir_drop_dead.specs.working.Marks.{Marked, has, mark_at}
use Rattle.fir_drop_dead.specs.working.Moved.{kept_net, moved_leaf, moved_node, moved_read}
use Rattle.fir_drop_dead.specs.working.Needed.{AreMarked, AreNeeded}
use Rattle.fir_drop_dead.specs.working.Numbers.{kept_of, place}
use Rattle.fir_drop_dead.proofs.KeptItems.{From, get_take, kept_from, map_from, map_there, place_below, place_there}
use Rattle.fir_drop_dead.proofs.KeptReads.{Moves, same_clock, same_node_type}

-- where an item of a list comes from, whose kept items are mapped
pub record MovedFrom {A B : Type 0} (f : A → B) (ms : List Bool) (xs : List A) (j : ℕ) (y : B) : Type 0 where
  pub item : A
  pub is : f item ≡ y
  pub from : From ms xs j item

pub moved_from : {A B : Type 0} → (f : A → B) (ms : List Bool) (xs : List A) (j : ℕ) (y : B) → slice_get (map f (kept_of ms xs)) j ≡ Some y → MovedFrom f ms xs j y
moved_from f ms xs j y h =
    let r = map_from f (kept_of ms xs) j y h in
    record { item = r.0; is = r.2; from = kept_from ms xs j r.0 r.1 }

pub moved_there : {A B : Type 0} → (f : A → B) (ms : List Bool) (xs : List A) (k : ℕ) (x : A) → slice_get xs k ≡ Some x → mark_at ms k ≡ true
    → slice_get (map f (kept_of ms xs)) (place ms k) ≡ Some (f x)
moved_there f ms xs k x at h = map_there f (kept_of ms xs) (place ms k) x (place_there ms xs k h ∙ at)

module _ (net : FlatNet) (m : Marked) where
  abbrev other : FlatNet
  other = kept_net m net

  pub clock_moved : (k : ℕ) → IsClock net.leaves k → mark_at m.leaves k ≡ true → IsClock other.leaves (place m.leaves k)
  clock_moved k is h = (moved_leaf m is.0, moved_there (moved_leaf m) m.leaves net.leaves k is.0 is.1 h, same_clock m is.0.role ∙ is.2)

  pub leaf_type_moved : (nodes few : List Node) (k : ℕ) (l : Leaf) → slice_get net.leaves k ≡ Some l → mark_at m.leaves k ≡ true
      → read_type other.leaves few (read.Leaf (place m.leaves k)) ≡ read_type net.leaves nodes (read.Leaf k)
  leaf_type_moved nodes few k l at h =
      ap (λ (o : Option Leaf). unwrap_or (option_map type_of_leaf o) no_type) (moved_there (moved_leaf m) m.leaves net.leaves k l at h)
      ∙ sym (ap (λ (o : Option Leaf). unwrap_or (option_map type_of_leaf o) no_type) at)

  node_type_moved : (nodes few : List Node) (i j : ℕ) (n : Node) → slice_get nodes i ≡ Some n → slice_get few j ≡ Some (moved_node m n)
      → read_type other.leaves few (read.Node j) ≡ read_type net.leaves nodes (read.Node i)
  node_type_moved nodes few i j n at new =
      ap (λ (o : Option Node). unwrap_or (option_map node_type o) no_type) new ∙ same_node_type m n
      ∙ sym (ap (λ (o : Option Node). unwrap_or (option_map node_type o) no_type) at)

  -- over lists of nodes in which each kept one is there
  module _ (nodes few : List Node) (here : (i : ℕ) (n : Node) → slice_get nodes i ≡ Some n → mark_at m.nodes i ≡ true → slice_get few (place m.nodes i) ≡ Some (moved_node m n)) where
    can_moved : (r : Read) → CanRead net.leaves nodes r → has m r ≡ true → CanRead other.leaves few (moved_read m r)
    can_moved (read.Leaf k) can h = (moved_leaf m can.0, moved_there (moved_leaf m) m.leaves net.leaves k can.0 can.1 h, same_clock m can.0.role ∙ can.2)
    can_moved (read.Node i) can h = let n = there nodes i can in slice_get_within few (place m.nodes i) (moved_node m n.0) (here i n.0 n.1 h)

    type_moved : (r : Read) → CanRead net.leaves nodes r → has m r ≡ true → read_type other.leaves few (moved_read m r) ≡ read_type net.leaves nodes r
    type_moved (read.Leaf k) can h = leaf_type_moved nodes few k can.0 can.1 h
    type_moved (read.Node i) can h = let n = there nodes i can in node_type_moved nodes few i (place m.nodes i) n.0 n.1 (here i n.0 n.1 h)

    moves_over : Moves m net.leaves other.leaves nodes few
    moves_over = record { can = can_moved; type = type_moved; clock = clock_moved }

  pub moves : Moves m net.leaves other.leaves net.nodes other.nodes
  moves = moves_over net.nodes other.nodes (λ i n at h. moved_there (moved_node m) m.nodes net.nodes i n at h)

  -- over the nodes before one that is kept
  pub moves_before : (k : ℕ) → mark_at m.nodes k ≡ true → Moves m net.leaves other.leaves (take k net.nodes) (take (place m.nodes k) other.nodes)
  moves_before k marked = moves_over (take k net.nodes) (take (place m.nodes k) other.nodes) here
    where
      here : (i : ℕ) (n : Node) → slice_get (take k net.nodes) i ≡ Some n → mark_at m.nodes i ≡ true
          → slice_get (take (place m.nodes k) other.nodes) (place m.nodes i) ≡ Some (moved_node m n)
      here i n at h =
          let within = slice_get_within (take k net.nodes) i n at in
          let before : i < k = omega (arith, within, length-take k net.nodes) in
          get_take other.nodes (place m.nodes k) (place m.nodes i) (place_below m.nodes i k before h)
          ∙ moved_there (moved_node m) m.nodes net.nodes i n (sym (get_take net.nodes k i before) ∙ at) h

  -- what a kept leaf reads is kept
  pub leaf_reads_kept : AreNeeded net m → (k : ℕ) (l : Leaf) → slice_get net.leaves k ≡ Some l → mark_at m.leaves k ≡ true → AreMarked m (whole_role_reads l.role)
  leaf_reads_kept are k l at h v n = are.closed (read.Leaf k) h v (subst (λ (rs : List Read). In rs v) (sym (ap whole_leaf_reads at)) n)
