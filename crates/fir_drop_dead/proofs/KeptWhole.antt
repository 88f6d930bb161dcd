-- The net of what is kept is whole.
use Rattle.std.proofs.Common.{◌≡◌, ◌||◌, ◌&&◌, ℕ, zero, suc, ◌≤◌, List, [], ◌∷◌, ◌++◌, map, take, Some, Bool, true, false, not, nat_eq, refl, ap, sym, ◌∙◌, subst, inl, inr, append-nil, append_assoc}
use Rattle.std.specs.Prelude.{slice_get, Option, MatchBool}
use Rattle.std.specs.List.{AllByRecursion, sum_by}
use Rattle.fir_base.specs.Lists.{Distinct, In}
use Rattle.fir_base.proofs.Each.{all_at, all_from, all_mapped}
use Rattle.fir_base.proofs.Elements.{all_there, number_of}
use Rattle.fir_base.proofs.Members.{in_map_from}
use Rattle.fir_net.specs.declared.array.Array.{Array}
use Rattle.fir_net.specs.declared.array.ArrayRead.{ArrayRead}
use Rattle.fir_net.specs.declared.array.ArrayWrite.{ArrayWrite}
use Rattle.fir_net.specs.declared.array.Pipe.{Pipe}
use Rattle.fir_net.specs.declared.leaf.Leaf.{Leaf}
use Rattle.fir_net.specs.declared.leaf.Role.{Role}
use Rattle.fir_net.specs.declared.leaf.Role.TheVariants as role
use Rattle.fir_net.specs.declared.net.FlatNet.{FlatNet}
use Rattle.fir_net.specs.declared.node.Node.{Node}
use Rattle.fir_net.specs.declared.reads.Read.TheVariants as read
use Rattle.fir_net.specs.working.Arrays.{words_of}
use Rattle.fir_net.specs.working.Dependence.{node_reads}
use Rattle.fir_net.specs.working.IsNet.{AreInside, AreNodes, ArePortsFirst, IsArray, IsArrayOrder, IsArrayWrite, IsLeaf, IsNet, IsNode, IsReadOf, IsState, is_port, is_state, is_word}
use Rattle.fir_net.proofs.NodeReads.{node_at}
use Rattle.fir_drop_dead.specs.working.Marks.{Marked, mark_at}
use Rattle.fir_drop_dead.specs.working.Moved.{kept_net, moved_array, moved_array_read, moved_leaf, moved_leaf_number, moved_node, moved_pipe, moved_role, moved_write}
use Rattle.fir_drop_dead.specs.working.Needed.{AreMarked, AreNeeded}
use Rattle.fir_drop_dead.specs.working.Numbers.{kept_of, place}
use Rattle.fir_drop_dead.proofs.KeptItems.{map_from, map_there, place_once}
use Rattle.fir_drop_dead.proofs.KeptLeaves.{leaf_reads_kept, moved_from, moved_there, moves, moves_before}
use Rattle.fir_drop_dead.proofs.KeptReads.{node_moved, role_moved, same_port, same_state, write_moved}

-- nodes of which each stands over those before it
nodes_from : (leaves : List Leaf) (before ns : List Node) → ((k : ℕ) (n : Node) → slice_get ns k ≡ Some n → IsNode leaves (before ++ take k ns) n) → AreNodes leaves before ns
nodes_from leaves before [] h = tt
nodes_from leaves before (n ∷ ns) h = (
  subst (λ (bs : List Node). IsNode leaves bs n) (append-nil before) (h 0 n refl),
  nodes_from leaves (before ++ n ∷ []) ns
      (λ k x at. subst (λ (bs : List Node). IsNode leaves bs x) (sym (append_assoc before (n ∷ []) (take k ns))) (h (suc k) x at)),
)

-- the leaves that are kept of leaves whose ports stand in front
module _ (m : Marked) where
  inside_kept : (ms : List Bool) (ls : List Leaf) → AreInside ls → AreInside (map (moved_leaf m) (kept_of ms ls))
  inside_kept [] ls h = tt
  inside_kept (b ∷ ms) [] h = tt
  inside_kept (true ∷ ms) (l ∷ ls) h = (same_port m l.role ∙ h.0, inside_kept ms ls h.1)
  inside_kept (false ∷ ms) (l ∷ ls) h = inside_kept ms ls h.1

  inside_first : (ls : List Leaf) → AreInside ls → ArePortsFirst ls
  inside_first [] h = tt
  inside_first (l ∷ ls) h = rw h.0 h.1

  one_port : (ms : List Bool) (ls : List Leaf) (p q : Bool) → q ≡ p → (ArePortsFirst ls → ArePortsFirst (map (moved_leaf m) (kept_of ms ls)))
      → MatchBool p (ArePortsFirst ls) (AreInside ls) → MatchBool q (ArePortsFirst (map (moved_leaf m) (kept_of ms ls))) (AreInside (map (moved_leaf m) (kept_of ms ls)))
  one_port ms ls true true e rest g = rest g
  one_port ms ls true false e rest g = cc
  one_port ms ls false true e rest g = cc
  one_port ms ls false false e rest g = inside_kept ms ls g

  no_port : (ms : List Bool) (ls : List Leaf) (p : Bool) → (ArePortsFirst ls → ArePortsFirst (map (moved_leaf m) (kept_of ms ls)))
      → MatchBool p (ArePortsFirst ls) (AreInside ls) → ArePortsFirst (map (moved_leaf m) (kept_of ms ls))
  no_port ms ls true rest g = rest g
  no_port ms ls false rest g = inside_first (map (moved_leaf m) (kept_of ms ls)) (inside_kept ms ls g)

  first_kept : (ms : List Bool) (ls : List Leaf) → ArePortsFirst ls → ArePortsFirst (map (moved_leaf m) (kept_of ms ls))
  first_kept [] ls h = tt
  first_kept (b ∷ ms) [] h = tt
  first_kept (true ∷ ms) (l ∷ ls) h = one_port ms ls (is_port l.role) (is_port (moved_role m l.role)) (same_port m l.role) (first_kept ms ls) h
  first_kept (false ∷ ms) (l ∷ ls) h = no_port ms ls (is_port l.role) (first_kept ms ls) h

-- numbers that stay apart
distinct_moved : (f : ℕ → ℕ) (ks : List ℕ) → ((j k : ℕ) → In ks j → In ks k → f j ≡ f k → j ≡ k) → Distinct ks → Distinct (map f ks)
distinct_moved f [] once h = tt
distinct_moved f (k ∷ ks) once h = (
  λ n. let r = in_map_from f ks (f k) n in h.0 (subst (In ks) (once r.0 k (inr r.1) (inl refl) r.2) r.1),
  distinct_moved f ks (λ i j a b. once i j (inr a) (inr b)) h.1,
)

-- an array is as long
words_moved : (m : Marked) (bs : List Array) (k : ℕ) → words_of (map (moved_array m) bs) k ≡ words_of bs k
words_moved m [] k = refl
words_moved m (a ∷ bs) zero = refl
words_moved m (a ∷ bs) (suc k) = words_moved m bs k

sums_same : (f g : ℕ → ℕ) (ks : List ℕ) → ((k : ℕ) → f k ≡ g k) → sum_by f ks ≡ sum_by g ks
sums_same f g ks h = ap (λ (e : ℕ → ℕ). sum_by e ks) (λ i k. h k i)

module _ (net : FlatNet) (whole : IsNet net) (m : Marked) (are : AreNeeded net m) where
  abbrev other : FlatNet
  other = kept_net m net

  kept_leaf : (j : ℕ) (x : Leaf) → slice_get other.leaves j ≡ Some x → IsLeaf other.leaves other.nodes x
  kept_leaf j x at =
      let r = moved_from (moved_leaf m) m.leaves net.leaves j x at in
      let l = r.item in
      let is = all_there (IsLeaf net.leaves net.nodes) net.leaves whole.leaves r.from.old l r.from.at in
      subst (IsLeaf other.leaves other.nodes) r.is
      (record {
        narrow = is.narrow;
        driven = role_moved m net.leaves other.leaves net.nodes other.nodes (moves net m) l.signed l.width l.role is.driven
            (leaf_reads_kept net m are r.from.old l r.from.at r.from.marked);
      })

  all_leaves : AllByRecursion (IsLeaf other.leaves other.nodes) other.leaves
  all_leaves = all_from (IsLeaf other.leaves other.nodes) other.leaves (λ x n. let j = number_of other.leaves x n in kept_leaf j.0 x j.1)

  kept_node : (j : ℕ) (x : Node) → slice_get other.nodes j ≡ Some x → IsNode other.leaves (take j other.nodes) x
  kept_node j x at =
      let r = moved_from (moved_node m) m.nodes net.nodes j x at in
      let n = r.item in
      let k = r.from.old in
      let is : IsNode net.leaves (take k net.nodes) n = node_at net.leaves net.nodes [] whole.nodes k n r.from.at in
      let reads : AreMarked m (node_reads (Some n)) =
      subst (λ (o : Option Node). AreMarked m (node_reads o)) r.from.at (are.closed (read.Node k) r.from.marked) in
      subst (IsNode other.leaves (take j other.nodes)) r.is
      (subst (λ (i : ℕ). IsNode other.leaves (take i other.nodes) (moved_node m n)) r.from.place
      (node_moved m net.leaves other.leaves (take k net.nodes) (take (place m.nodes k) other.nodes) (moves_before net m k r.from.marked) n is reads))

  -- the words of the state
  pub state_leaf : (n k : ℕ) → slice_get net.state n ≡ Some k → mark_at m.leaves k ≡ true
  state_leaf n k at = let l = whole.state.only n k at in are.roots k l.0 l.1 (root_word l.0 l.2)
    where
      or_true : (a : Bool) → (a || true) ≡ true
      or_true true = refl
      or_true false = refl

      state_word : (a b : Bool) → (a && b) ≡ true → a ≡ true
      state_word true b h = refl
      state_word false b h = cc

      root_word : (l : Leaf) → is_word l ≡ true → (is_port l.role || is_state l.role) ≡ true
      root_word l h = ap (λ b. is_port l.role || b) (state_word (is_state l.role) (not (nat_eq l.width 0)) h) ∙ or_true (is_port l.role)

  same_word : (l : Leaf) → is_word (moved_leaf m l) ≡ is_word l
  same_word l = ap (λ b. b && not (nat_eq l.width 0)) (same_state m l.role)

  kept_state : IsState other.leaves other.state
  kept_state = record {
    only = λ n j at.
        let r = map_from (moved_leaf_number m) net.state n j at in
        let l = whole.state.only n r.0 r.1 in (
          moved_leaf m l.0,
          subst (λ (i : ℕ). slice_get other.leaves i ≡ Some (moved_leaf m l.0)) r.2
              (moved_there (moved_leaf m) m.leaves net.leaves r.0 l.0 l.1 (state_leaf n r.0 r.1)),
          same_word l.0 ∙ l.2,
        );
    all = λ j x at word.
        let r = moved_from (moved_leaf m) m.leaves net.leaves j x at in
        let n = whole.state.all r.from.old r.item r.from.at (sym (same_word r.item) ∙ ap is_word r.is ∙ word) in
        (n.0, map_there (moved_leaf_number m) net.state n.0 r.from.old n.1 ∙ ap Some r.from.place);
    once = distinct_moved (moved_leaf_number m) net.state
        (λ i j a b.
        let p = number_of net.state i a in
        let q = number_of net.state j b in
        place_once m.leaves i j (state_leaf p.0 i p.1) (state_leaf q.0 j q.1))
        whole.state.once;
  }

  -- the arrays
  kept_writes : (a : Array) → In net.arrays a → IsArray net.leaves net.nodes a → IsArray other.leaves other.nodes (moved_array m a)
  kept_writes a among is = record {
    narrow = is.narrow;
    has_words = is.has_words;
    writes = all_mapped (IsArrayWrite other.leaves other.nodes a.signed a.width) (moved_write m) a.writes
        (all_from (λ (w : ArrayWrite). IsArrayWrite other.leaves other.nodes a.signed a.width (moved_write m w)) a.writes
        (λ w n. write_moved m net.leaves other.leaves net.nodes other.nodes (moves net m) a.signed a.width w
        (all_at (IsArrayWrite net.leaves net.nodes a.signed a.width) a.writes is.writes w n) (are.writes a w among n)));
  }

  kept_arrays : AllByRecursion (IsArray other.leaves other.nodes) other.arrays
  kept_arrays =
      all_mapped (IsArray other.leaves other.nodes) (moved_array m) net.arrays
      (all_from (λ (a : Array). IsArray other.leaves other.nodes (moved_array m a)) net.arrays
      (λ a n. kept_writes a n (all_at (IsArray net.leaves net.nodes) net.arrays whole.arrays a n)))

  reads_array : (l : Leaf) (r : ArrayRead) → IsReadOf net.arrays l r → IsReadOf other.arrays (moved_leaf m l) (moved_array_read m r)
  reads_array l r is = (moved_array m is.0, map_there (moved_array m) net.arrays r.array is.0 is.1, is.2, is.3)

  reading_from : (r : Role) (s : ArrayRead) → moved_role m r ≡ role.Reading s → (t : ArrayRead) × (r ≡ role.Reading t) × (moved_array_read m t ≡ s)
  reading_from role.Input s e = cc
  reading_from role.Clock s e = cc
  reading_from (role.Output r) s e = cc
  reading_from (role.Wire r) s e = cc
  reading_from (role.Register r) s e = cc
  reading_from (role.Reading r) s e = (r, refl, cc)
  reading_from (role.Pipe p) s e = cc
  reading_from (role.ClockOutput c) s e = cc
  reading_from (role.ClockWire c) s e = cc

  pipe_from : (r : Role) (q : Pipe) → moved_role m r ≡ role.Pipe q → (p : Pipe) × (r ≡ role.Pipe p) × (moved_pipe m p ≡ q)
  pipe_from role.Input q e = cc
  pipe_from role.Clock q e = cc
  pipe_from (role.Output r) q e = cc
  pipe_from (role.Wire r) q e = cc
  pipe_from (role.Register r) q e = cc
  pipe_from (role.Reading r) q e = cc
  pipe_from (role.Pipe p) q e = (p, refl, cc)
  pipe_from (role.ClockOutput c) q e = cc
  pipe_from (role.ClockWire c) q e = cc

  kept_reading : (j : ℕ) (x : Leaf) (s : ArrayRead) → slice_get other.leaves j ≡ Some x → x.role ≡ role.Reading s → IsReadOf other.arrays x s
  kept_reading j x s at is =
      let r = moved_from (moved_leaf m) m.leaves net.leaves j x at in
      let t = reading_from r.item.role s (ap (λ (l : Leaf). l.role) r.is ∙ is) in
      subst (λ (l : Leaf). IsReadOf other.arrays l s) r.is
      (subst (IsReadOf other.arrays (moved_leaf m r.item)) t.2 (reads_array r.item t.0 (whole.readings r.from.old r.item t.0 r.from.at t.1)))

  kept_pipe : (j : ℕ) (x : Leaf) (q : Pipe) → slice_get other.leaves j ≡ Some x → x.role ≡ role.Pipe q → IsReadOf other.arrays x q.read
  kept_pipe j x q at is =
      let r = moved_from (moved_leaf m) m.leaves net.leaves j x at in
      let p = pipe_from r.item.role q (ap (λ (l : Leaf). l.role) r.is ∙ is) in
      subst (λ (l : Leaf). IsReadOf other.arrays l q.read) r.is
      (subst (λ (o : Pipe). IsReadOf other.arrays (moved_leaf m r.item) o.read) p.2
      (reads_array r.item p.0.read (whole.pipes r.from.old r.item p.0 r.from.at p.1)))

  kept_array_order : IsArrayOrder other.arrays other.array_order
  kept_array_order = record {
    only = λ n k at. let a = whole.array_state.only n k at in (moved_array m a.0, map_there (moved_array m) net.arrays k a.0 a.1, a.2);
    all = λ k x at wide.
        let a = map_from (moved_array m) net.arrays k x at in
        whole.array_state.all k a.0 a.1 (subst (λ (b : Array). 1 ≤ b.width) (sym a.2) wide);
    once = whole.array_state.once;
  }

  pub kept_whole : IsNet other
  kept_whole = record {
    leaves = all_leaves;
    ports_first = first_kept m m.leaves net.leaves whole.ports_first;
    nodes = nodes_from other.leaves [] other.nodes kept_node;
    state = kept_state;
    arrays = kept_arrays;
    readings = kept_reading;
    pipes = kept_pipe;
    array_state = kept_array_order;
    few_words = rw (sums_same (words_of other.arrays) (words_of net.arrays) net.array_order (words_moved m net.arrays)) whole.few_words;
  }
