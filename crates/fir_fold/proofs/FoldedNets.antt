-- A folded net is whole.
use Rattle.std.proofs.Common.{◌≡◌, ℕ, ◌≤◌, List, [], length, map, Bool, not, ◌&&◌, nat_eq, sym, ap, ◌∙◌, subst}
use Rattle.std.specs.Prelude.{slice_get, Some}
use Rattle.std.proofs.lemmas.Option.{slice_get_within}
use Rattle.fir_base.proofs.Each.{all_mapped}
use Rattle.fir_net.specs.declared.array.Array.{Array}
use Rattle.fir_net.specs.declared.array.ArrayRead.{ArrayRead}
use Rattle.fir_net.specs.declared.array.Pipe.{Pipe}
use Rattle.fir_net.specs.declared.leaf.Leaf.{Leaf}
use Rattle.fir_net.specs.declared.leaf.Role.TheVariants as role
use Rattle.fir_net.specs.declared.net.FlatNet.{FlatNet}
use Rattle.fir_net.specs.declared.reads.Read.{Read}
use Rattle.fir_net.specs.declared.reads.Read.TheVariants as read
use Rattle.fir_net.specs.working.Dependence.{IsOf}
use Rattle.fir_net.specs.working.IsNet.{CanRead, IsArrayOrder, IsLeaf, IsNet, IsReadOf, IsState, is_word}
use Rattle.fir_net.specs.working.IsOrder.{IsOrder}
use Rattle.fir_fold.specs.working.FoldedNet.{folded_net}
use Rattle.fir_fold.specs.working.Standing.{leaf_read, written_array}
use Rattle.fir_fold.specs.working.Walking.{IsStood, IsWalked, StandsBefore, Walking, read_by}
use Rattle.fir_fold.proofs.Carried.{IsCarried, arrays_carried, role_carried}
use Rattle.fir_fold.proofs.FoldedLeaves.{all_then, can_over, clock_over, map_at, map_from, nodes_over, pipe_from, ports_first, read_types, reading_from, state_role, words_same}

module _ (net : FlatNet) (order : List Read) (ordered : IsOrder net order) (whole : IsNet net) (w : Walking) (h : IsWalked net order (length order) w) where
  pub all_done : (v : Read) → IsOf net v → StandsBefore order (length order) v
  all_done v of = let a = ordered.all v of in record { place = a.0; before = slice_get_within order a.0 v a.1; is = a.1 }

  pub can_of : (r : Read) → CanRead net.leaves net.nodes r → IsOf net r
  can_of (read.Leaf k) c = slice_get_within net.leaves k c.0 c.1
  can_of (read.Node k) c = c

  pub stood : (v : Read) → IsOf net v → IsStood net w v
  stood v of = h.stood v (all_done v of)

  pub carried : (r : Read) → CanRead net.leaves net.nodes r → IsCarried net.leaves net.nodes (map (leaf_read (read_by w)) net.leaves) w.nodes (read_by w) r
  carried r c = let s = stood r (can_of r c) in record {
    can = can_over (read_by w) net.leaves w.nodes (read_by w r) (s.can c);
    has_type = read_types (read_by w) net.leaves w.nodes (read_by w r) ∙ s.has_type c;
  }

  leaf_over : (l : Leaf) → IsLeaf net.leaves net.nodes l → IsLeaf (map (leaf_read (read_by w)) net.leaves) w.nodes (leaf_read (read_by w) l)
  leaf_over l is = record {
    narrow = is.narrow;
    driven = role_carried net.leaves net.nodes (map (leaf_read (read_by w)) net.leaves) w.nodes (read_by w) (clock_over (read_by w) net.leaves) carried l.signed l.width l.role is.driven;
  }

  word_over : (l : Leaf) → is_word (leaf_read (read_by w) l) ≡ is_word l
  word_over l = ap (λ (b : Bool). b && not (nat_eq l.width 0)) (state_role (read_by w) l.role)

  state_over : IsState (map (leaf_read (read_by w)) net.leaves) net.state
  state_over = record {
    only = λ n k at. let x = whole.state.only n k at in (leaf_read (read_by w) x.0, map_at (leaf_read (read_by w)) net.leaves k x.0 x.1, word_over x.0 ∙ x.2);
    all = λ k m at is.
        let x = map_from (leaf_read (read_by w)) net.leaves k m at in
        whole.state.all k x.0 x.1 (sym (word_over x.0) ∙ ap is_word (sym x.2) ∙ is);
    once = whole.state.once;
  }

  read_over : (l m : Leaf) (q r : ArrayRead) → m ≡ leaf_read (read_by w) l → r.array ≡ q.array → IsReadOf net.arrays l q → IsReadOf (map (written_array (read_by w)) net.arrays) m r
  read_over l m q r e same is = (
    written_array (read_by w) is.0,
    ap (slice_get (map (written_array (read_by w)) net.arrays)) same ∙ map_at (written_array (read_by w)) net.arrays q.array is.0 is.1,
    is.2 ∙ ap (λ (x : Leaf). x.width) (sym e),
    is.3 ∙ ap (λ (x : Leaf). x.signed) (sym e),
  )

  readings_over : (k : ℕ) (m : Leaf) (r : ArrayRead) → slice_get (map (leaf_read (read_by w)) net.leaves) k ≡ Some m → m.role ≡ role.Reading r → IsReadOf (map (written_array (read_by w)) net.arrays) m r
  readings_over k m r at is =
      let x = map_from (leaf_read (read_by w)) net.leaves k m at in
      let q = reading_from (read_by w) x.0.role r (ap (λ (y : Leaf). y.role) (sym x.2) ∙ is) in
      read_over x.0 m q.0 r x.2 q.2 (whole.readings k x.0 q.0 x.1 q.1)

  pipes_over : (k : ℕ) (m : Leaf) (p : Pipe) → slice_get (map (leaf_read (read_by w)) net.leaves) k ≡ Some m → m.role ≡ role.Pipe p → IsReadOf (map (written_array (read_by w)) net.arrays) m p.read
  pipes_over k m p at is =
      let x = map_from (leaf_read (read_by w)) net.leaves k m at in
      let q = pipe_from (read_by w) x.0.role p (ap (λ (y : Leaf). y.role) (sym x.2) ∙ is) in
      read_over x.0 m q.0.read p.read x.2 q.2 (whole.pipes k x.0 q.0 x.1 q.1)

  array_order_over : IsArrayOrder (map (written_array (read_by w)) net.arrays) net.array_order
  array_order_over = record {
    only = λ n k at. let x = whole.array_state.only n k at in (written_array (read_by w) x.0, map_at (written_array (read_by w)) net.arrays k x.0 x.1, x.2);
    all = λ k a at wide.
        let x = map_from (written_array (read_by w)) net.arrays k a at in
        whole.array_state.all k x.0 x.1 (subst (λ (y : Array). 1 ≤ y.width) x.2 wide);
    once = whole.array_state.once;
  }

  pub whole_folded : IsNet (folded_net net w)
  whole_folded = record {
    leaves =
        all_mapped (IsLeaf (map (leaf_read (read_by w)) net.leaves) w.nodes) (leaf_read (read_by w)) net.leaves
        (all_then (IsLeaf net.leaves net.nodes) (λ (l : Leaf). IsLeaf (map (leaf_read (read_by w)) net.leaves) w.nodes (leaf_read (read_by w) l)) net.leaves leaf_over whole.leaves);
    ports_first = ports_first (read_by w) net.leaves whole.ports_first;
    nodes = nodes_over (read_by w) net.leaves [] w.nodes h.nodes;
    state = state_over;
    arrays = arrays_carried net.leaves net.nodes (map (leaf_read (read_by w)) net.leaves) w.nodes (read_by w) (clock_over (read_by w) net.leaves) carried net.arrays whole.arrays;
    readings = readings_over;
    pipes = pipes_over;
    array_state = array_order_over;
    few_words = subst (λ (n : ℕ). n ≤ 4194304) (sym (words_same (read_by w) net.arrays net.array_order)) whole.few_words;
  }
