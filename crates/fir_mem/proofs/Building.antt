-- What holds while a net is built whose pipes are registers: what stands in the place of each leaf, what was put behind them, and an order of all.
use Rattle.std.proofs.Common.{◌≡◌, ℕ, ◌<◌, ◌≤◌, List, [], ◌∷◌, ◌++◌, length, true, false, refl, sym, ap, ◌∙◌, subst, arith, append_assoc, length-append, length-set, ◌⊎◌, inl, inr}
use Rattle.std.specs.Prelude.{slice_get, Option, Some}
use Rattle.std.specs.List.{AllByRecursion}
use Rattle.std.proofs.lemmas.Bool.{cases_eq}
use Rattle.std.proofs.lemmas.Option.{slice_get_within, same_Some}
use Rattle.fir_base.proofs.Elements.{all_there, get_left, there}
use Rattle.fir_base.proofs.Writes.{push_left, push_end, push_cases, write_same, write_other}
use Rattle.fir_bits.specs.declared.operators.PrimOp.TheVariants.{Eq, And, Lt}
use Rattle.fir_bits.specs.declared.types.NumTy.{NumTy}
use Rattle.fir_bits.specs.declared.values.Num.{Num}
use Rattle.fir_net.specs.declared.array.Array.{Array}
use Rattle.fir_net.specs.declared.array.ArrayRead.{ArrayRead}
use Rattle.fir_net.specs.declared.array.Pipe.{Pipe}
use Rattle.fir_net.specs.declared.leaf.Leaf.{Leaf}
use Rattle.fir_net.specs.declared.leaf.Role.TheVariants as role
use Rattle.fir_net.specs.declared.node.Node.{Node}
use Rattle.fir_net.specs.declared.node.Node.TheVariants as node
use Rattle.fir_net.specs.declared.net.FlatNet.{FlatNet}
use Rattle.fir_net.specs.declared.reads.Read.{Read}
use Rattle.fir_net.specs.declared.reads.Read.TheVariants as read
use Rattle.fir_net.specs.working.Dependence.{IsOf, Reads, reads_of, leaf_reads, node_reads, role_reads, support_of}
use Rattle.fir_net.specs.working.IsNet.{IsNode, AreNodes, CanRead}
use Rattle.fir_net.specs.working.IsOrder.{IsOrder}
use Rattle.fir_net.specs.working.Settled.{is_clock}
use Rattle.fir_net.specs.working.Values.{type_of_leaf}
use Rattle.fir_mem.specs.declared.clocked_writes.PortWrite.{PortWrite}
use Rattle.fir_mem.specs.declared.clocked_writes.PortWrites.{PortWrites}
use Rattle.fir_mem.specs.working.Built.{Built, next_node, next_leaf, put_node, put_leaf, set_leaf, bit, choice, literal, zero_of, reading_of, register_of}
use Rattle.fir_mem.specs.working.ClockedWrites.{IsClockedArray}
use Rattle.fir_mem.proofs.Growth.{Grown, SameKind, same_grown, grown_twice, are_nodes, nodes_joined, can_read}

-- a read of a node
pub record AtNode (nodes : List Node) (r : Read) (n : Node) : Type 0 where
  pub number : ℕ
  pub is : r ≡ read.Node number
  pub at : slice_get nodes number ≡ Some n

-- the choices of writes, the last one of which counts, from what was there before to what is there after them
pub data Chosen (nodes : List Node) (address : Read) (ty : NumTy) : List PortWrite → Read → Read → Type 0 where
  nothing : (r : Read) → Chosen nodes address ty [] r r
  one : (w : PortWrite) (ws : List PortWrite) (r here written mid s : Read) → AtNode nodes here (bit Eq w.address address) → AtNode nodes written (bit And w.condition here)
      → AtNode nodes mid (choice ty written w.given r) → Chosen nodes address ty ws mid s → Chosen nodes address ty (w ∷ ws) r s

-- zero where nothing is read
pub record Guarded (nodes : List Node) (r : ArrayRead) (ty : NumTy) (end : Num) (taken out : Read) : Type 0 where
  pub last : Read
  pub within : Read
  pub is_read : Read
  pub none : Read
  pub at_last : AtNode nodes last (literal end)
  pub at_within : AtNode nodes within (bit Lt r.address last)
  pub at_read : AtNode nodes is_read (bit And r.enable within)
  pub at_none : AtNode nodes none (literal (zero_of ty))
  pub at_out : AtNode nodes out (choice ty is_read taken none)

-- what a register takes in the place of a pipe
pub data Takes (net : FlatNet) (leaves : List Leaf) (nodes : List Node) (l : Leaf) (p : Pipe) : Read → Type 0 where
  old : (h : ℕ) → length net.leaves ≤ h → slice_get leaves h ≡ Some (reading_of l p.read) → p.is_new ≡ false → Takes net leaves nodes l p (read.Leaf h)
  new : (h : ℕ) (a : Array) (ws : PortWrites) (taken out : Read) → length net.leaves ≤ h → slice_get leaves h ≡ Some (reading_of l p.read) → p.is_new ≡ true
      → slice_get net.arrays p.read.array ≡ Some a → IsClockedArray net a ws → Chosen nodes p.read.address (type_of_leaf l) ws.writes (read.Leaf h) taken
      → Guarded nodes p.read (type_of_leaf l) ws.end taken out → Takes net leaves nodes l p out

-- what a leaf becomes
pub data Becomes (net : FlatNet) (leaves : List Leaf) (nodes : List Node) (l : Leaf) : Leaf → Type 0 where
  itself : Becomes net leaves nodes l l
  register : (p : Pipe) (next : Read) → l.role ≡ role.Pipe p → CanRead leaves nodes next → Takes net leaves nodes l p next → Becomes net leaves nodes l (register_of l p next)

-- a leaf that reads at once in the place of a pipe
pub record IsHidden (net : FlatNet) (m : Leaf) : Type 0 where
  pub number : ℕ
  pub leaf : Leaf
  pub pipe : Pipe
  pub at : slice_get net.leaves number ≡ Some leaf
  pub is_pipe : leaf.role ≡ role.Pipe pipe
  pub is : m ≡ reading_of leaf pipe.read

abbrev pub net_of : FlatNet → Built → FlatNet
net_of net b = record { name = net.name; leaves = b.leaves; nodes = b.nodes; state = net.state; arrays = net.arrays; array_order = net.array_order }

pub record Building (net : FlatNet) (order : List Read) (b : Built) : Type 0 where
  pub kept : (k : ℕ) (l : Leaf) → slice_get net.leaves k ≡ Some l → (m : Leaf) × (slice_get b.leaves k ≡ Some m) × Becomes net b.leaves b.nodes l m
  pub hidden : (k : ℕ) (m : Leaf) → slice_get b.leaves k ≡ Some m → length net.leaves ≤ k → IsHidden net m
  pub more : List Node
  pub nodes : b.nodes ≡ net.nodes ++ more
  pub are_nodes : AreNodes b.leaves net.nodes more
  pub ordered : IsOrder (net_of net b) (order ++ b.entries)

-- from one state to a later one
pub record Later (net : FlatNet) (b c : Built) : Type 0 where
  pub grown : Grown b.leaves b.nodes c.leaves c.nodes
  pub high : (k : ℕ) (m : Leaf) → length net.leaves ≤ k → slice_get b.leaves k ≡ Some m → slice_get c.leaves k ≡ Some m

pub at_later : (net : FlatNet) (b c : Built) → Later net b c → (r : Read) (n : Node) → AtNode b.nodes r n → AtNode c.nodes r n
at_later net b c g r n h = record { number = h.number; is = h.is; at = g.grown.node h.number n h.at }

module _ (net : FlatNet) (b c : Built) (g : Later net b c) where
  abbrev at : (r : Read) (n : Node) → AtNode b.nodes r n → AtNode c.nodes r n
  at = at_later net b c g

  pub chosen_later : (address : Read) (ty : NumTy) (ws : List PortWrite) (r s : Read) → Chosen b.nodes address ty ws r s → Chosen c.nodes address ty ws r s
  chosen_later address ty _ _ _ (nothing r) = nothing r
  chosen_later address ty _ _ _ (one w ws r here written mid s x y z more) =
      one w ws r here written mid s (at _ _ x) (at _ _ y) (at _ _ z) (chosen_later address ty ws mid s more)

  pub guarded_later : (r : ArrayRead) (ty : NumTy) (end : Num) (taken out : Read) → Guarded b.nodes r ty end taken out → Guarded c.nodes r ty end taken out
  guarded_later r ty end taken out h = record {
    last = h.last;
    within = h.within;
    is_read = h.is_read;
    none = h.none;
    at_last = at _ _ h.at_last;
    at_within = at _ _ h.at_within;
    at_read = at _ _ h.at_read;
    at_none = at _ _ h.at_none;
    at_out = at _ _ h.at_out;
  }

  takes_later : (l : Leaf) (p : Pipe) (next : Read) → Takes net b.leaves b.nodes l p next → Takes net c.leaves c.nodes l p next
  takes_later l p _ (old h high there is) = old h high (g.high h _ high there) is
  takes_later l p _ (new h a ws taken out high there is array clocked chosen guarded) =
      new h a ws taken out high (g.high h _ high there) is array clocked (chosen_later _ _ _ _ _ chosen) (guarded_later _ _ _ _ _ guarded)

  becomes_later : (l m : Leaf) → Becomes net b.leaves b.nodes l m → Becomes net c.leaves c.nodes l m
  becomes_later l _ itself = itself
  becomes_later l _ (register p next is can takes) = register p next is (can_read b.leaves b.nodes c.leaves c.nodes g.grown next can) (takes_later l p next takes)

pub same_later : (net : FlatNet) (b : Built) → Later net b b
same_later net b = record { grown = same_grown b.leaves b.nodes; high = λ k m h e. e }

pub later_twice : (net : FlatNet) (b c d : Built) → Later net b c → Later net c d → Later net b d
later_twice net b c d g h = record {
  grown = grown_twice b.leaves b.nodes c.leaves c.nodes d.leaves d.nodes g.grown h.grown;
  high = λ k m l e. h.high k m l (g.high k m l e);
}

-- an order with one more at its end
module _ (net other : FlatNet) (order : List Read) (v : Read) (is : IsOrder net order) (all_of : (w : Read) → IsOf net w → IsOf other w) (new : IsOf net v → ⊥) (of : IsOf other v)
    (same : (w : Read) → IsOf net w → reads_of other w ≡ reads_of net w) (reads : (place : ℕ) (w : Read) → slice_get (reads_of other v) place ≡ Some w → IsOf net w)
    (cases : (w : Read) → IsOf other w → IsOf net w ⊎ (v ≡ w)) where
  abbrev all : List Read
  all = order ++ v ∷ []

  only : (i : ℕ) (w : Read) → slice_get all i ≡ Some w → IsOf other w
  only i w e = by (push_cases order v i w e)
    where
      by : (slice_get order i ≡ Some w) ⊎ ((i ≡ length order) × (v ≡ w)) → IsOf other w
      by (inl o) = all_of w (is.only i w o)
      by (inr (o, s)) = subst (IsOf other) s of

  once : (i j : ℕ) (w : Read) → slice_get all i ≡ Some w → slice_get all j ≡ Some w → i ≡ j
  once i j w e f = by (push_cases order v i w e) (push_cases order v j w f)
    where
      by : (slice_get order i ≡ Some w) ⊎ ((i ≡ length order) × (v ≡ w)) → (slice_get order j ≡ Some w) ⊎ ((j ≡ length order) × (v ≡ w)) → i ≡ j
      by (inl x) (inl y) = is.once i j w x y
      by (inl x) (inr (y, s)) = absurd (new (subst (IsOf net) (sym s) (is.only i w x)))
      by (inr (x, s)) (inl y) = absurd (new (subst (IsOf net) (sym s) (is.only j w y)))
      by (inr (x, s)) (inr (y, t)) = x ∙ sym y

  placed : (w : Read) → IsOf net w → (j : ℕ) × (j < length order) × (slice_get all j ≡ Some w)
  placed w o =
      let j = is.all w o in
      (j.0, slice_get_within order j.0 w j.1, push_left order (v ∷ []) j.0 w j.1)

  after : (i : ℕ) (u w : Read) → slice_get all i ≡ Some u → Reads other u w → (j : ℕ) × (j < i) × (slice_get all j ≡ Some w)
  after i u w e r = by (push_cases order v i u e)
    where
      by : (slice_get order i ≡ Some u) ⊎ ((i ≡ length order) × (v ≡ u)) → (j : ℕ) × (j < i) × (slice_get all j ≡ Some w)
      by (inl o) =
          let j = is.after i u w o (record { place = r.place; is = ap (λ (rs : List Read). slice_get rs r.place) (sym (same u (is.only i u o))) ∙ r.is }) in
          (j.0, j.1, push_left order (v ∷ []) j.0 w j.2)
      by (inr (o, s)) =
          let x : slice_get (reads_of other v) r.place ≡ Some w = subst (λ (u : Read). slice_get (reads_of other u) r.place ≡ Some w) (sym s) r.is in
          let j = placed w (reads r.place w x) in
          (j.0, subst (λ (n : ℕ). j.0 < n) (sym o) j.1, j.2)

  pub order_more : IsOrder other all
  order_more = record {
    only = only;
    once = once;
    after = after;
    all = λ w o. by w (cases w o);
  }
    where
      by : (w : Read) → IsOf net w ⊎ (v ≡ w) → (i : ℕ) × (slice_get all i ≡ Some w)
      by w (inl o) = let j = placed w o in (j.0, j.2)
      by w (inr s) = (length order, push_end order v ∙ ap Some s)

-- where something is put behind the leaves or the nodes
module _ (net : FlatNet) (order : List Read) (b : Built) (B : Building net order b) where
  more_entries : (v : Read) → (c : Built) → IsOrder (net_of net c) ((order ++ b.entries) ++ v ∷ []) → IsOrder (net_of net c) (order ++ (b.entries ++ v ∷ []))
  more_entries v c h = subst (IsOrder (net_of net c)) (append_assoc order b.entries (v ∷ [])) h

  -- ---- a node
  module _ (n : Node) (is : IsNode b.leaves b.nodes n) where
    abbrev with_node : Built
    with_node = put_node b n

    pub node_later : Later net b with_node
    node_later = record {
      grown = record { leaf = (same_grown b.leaves b.nodes).leaf; node = λ k x e. push_left b.nodes (n ∷ []) k x e };
      high = λ k m h e. e;
    }

    pub node_at : AtNode with_node.nodes (next_node b) n
    node_at = record { number = length b.nodes; is = refl; at = push_end b.nodes n }

    node_cases : (w : Read) → IsOf (net_of net with_node) w → IsOf (net_of net b) w ⊎ (next_node b ≡ w)
    node_cases (read.Leaf k) o = inl o
    node_cases (read.Node k) o = by (cases_eq k (length b.nodes))
      where
        by : (k ≡ length b.nodes) ⊎ (k ≡ length b.nodes → ⊥) → (k < length b.nodes) ⊎ (next_node b ≡ read.Node k)
        by (inl e) = inr (ap read.Node (sym e))
        by (inr e) = inl (omega (arith, length-append b.nodes (n ∷ []), o, e))

    node_of : (w : Read) → IsOf (net_of net b) w → IsOf (net_of net with_node) w
    node_of (read.Leaf k) o = o
    node_of (read.Node k) o = omega (arith, length-append b.nodes (n ∷ []), o)

    node_same : (w : Read) → IsOf (net_of net b) w → reads_of (net_of net with_node) w ≡ reads_of (net_of net b) w
    node_same (read.Leaf k) o = refl
    node_same (read.Node k) o = ap node_reads (get_left b.nodes (n ∷ []) k o)

    can_of : (w : Read) → CanRead b.leaves b.nodes w → IsOf (net_of net b) w
    can_of (read.Leaf k) can = slice_get_within b.leaves k can.0 can.1
    can_of (read.Node k) can = can

    support_can : (n : Node) → IsNode b.leaves b.nodes n → AllByRecursion (CanRead b.leaves b.nodes) (support_of n)
    support_can (node.Literal v) h = tt
    support_can (node.Operation o) h = h.reads
    support_can (node.Mux m) h = h.reads

    pub node_building : Building net order with_node
    node_building = record {
      kept = λ k l e. let x = B.kept k l e in (x.0, x.1, becomes_later net b with_node node_later l x.0 x.2);
      hidden = B.hidden;
      more = B.more ++ n ∷ [];
      nodes = ap (λ (ns : List Node). ns ++ n ∷ []) B.nodes ∙ append_assoc net.nodes B.more (n ∷ []);
      are_nodes = nodes_joined b.leaves net.nodes B.more (n ∷ []) B.are_nodes (subst (λ (ns : List Node). IsNode b.leaves ns n) B.nodes is, tt);
      ordered =
          more_entries (next_node b) with_node
          (order_more (net_of net b) (net_of net with_node) (order ++ b.entries) (next_node b) B.ordered node_of (λ o. omega (arith, o))
          (omega (arith, length-append b.nodes (n ∷ []))) node_same
          (λ place w e. can_of w (all_there (CanRead b.leaves b.nodes) (support_of n) (support_can n is) place w
          (subst (λ (o : Option Node). slice_get (node_reads o) place ≡ Some w) (push_end b.nodes n) e)))
          node_cases);
    }

  -- ---- a leaf that reads at once
  module _ (m : Leaf) (is : IsHidden net m) (can : (place : ℕ) (w : Read) → slice_get (role_reads m.role) place ≡ Some w → IsOf (net_of net b) w) where
    abbrev with_leaf : Built
    with_leaf = put_leaf b m

    pub leaf_later : Later net b with_leaf
    leaf_later = record {
      grown = record { leaf = λ k l e. (l, push_left b.leaves (m ∷ []) k l e, record { typed = refl; clock = refl }); node = λ k x e. e };
      high = λ k l h e. push_left b.leaves (m ∷ []) k l e;
    }

    leaf_cases : (w : Read) → IsOf (net_of net with_leaf) w → IsOf (net_of net b) w ⊎ (next_leaf b ≡ w)
    leaf_cases (read.Node k) o = inl o
    leaf_cases (read.Leaf k) o = by (cases_eq k (length b.leaves))
      where
        by : (k ≡ length b.leaves) ⊎ (k ≡ length b.leaves → ⊥) → (k < length b.leaves) ⊎ (next_leaf b ≡ read.Leaf k)
        by (inl e) = inr (ap read.Leaf (sym e))
        by (inr e) = inl (omega (arith, length-append b.leaves (m ∷ []), o, e))

    leaf_of : (w : Read) → IsOf (net_of net b) w → IsOf (net_of net with_leaf) w
    leaf_of (read.Node k) o = o
    leaf_of (read.Leaf k) o = omega (arith, length-append b.leaves (m ∷ []), o)

    leaf_same : (w : Read) → IsOf (net_of net b) w → reads_of (net_of net with_leaf) w ≡ reads_of (net_of net b) w
    leaf_same (read.Node k) o = refl
    leaf_same (read.Leaf k) o = ap leaf_reads (get_left b.leaves (m ∷ []) k o)

    pub leaf_building : Building net order with_leaf
    leaf_building = record {
      kept = λ k l e. let x = B.kept k l e in (x.0, push_left b.leaves (m ∷ []) k x.0 x.1, becomes_later net b with_leaf leaf_later l x.0 x.2);
      hidden = λ k l e high. hidden_by k l high (push_cases b.leaves m k l e);
      more = B.more;
      nodes = B.nodes;
      are_nodes = are_nodes b.leaves with_leaf.leaves grows net.nodes B.more B.are_nodes;
      ordered =
          more_entries (next_leaf b) with_leaf
          (order_more (net_of net b) (net_of net with_leaf) (order ++ b.entries) (next_leaf b) B.ordered leaf_of (λ o. omega (arith, o))
          (omega (arith, length-append b.leaves (m ∷ []))) leaf_same
          (λ place w e. can place w (subst (λ (o : Option Leaf). slice_get (leaf_reads o) place ≡ Some w) (push_end b.leaves m) e))
          leaf_cases);
    }
      where
        grows : (nodes : List Node) → Grown b.leaves nodes with_leaf.leaves nodes
        grows nodes = record { leaf = leaf_later.grown.leaf; node = λ k x e. e }

        hidden_by : (k : ℕ) (l : Leaf) → length net.leaves ≤ k → (slice_get b.leaves k ≡ Some l) ⊎ ((k ≡ length b.leaves) × (m ≡ l)) → IsHidden net l
        hidden_by k l high (inl e) = B.hidden k l e high
        hidden_by k l high (inr (e, s)) = subst (IsHidden net) s is

  -- ---- a register in the place of a pipe
  module _ (k : ℕ) (l : Leaf) (p : Pipe) (next : Read) (at : slice_get net.leaves k ≡ Some l) (here : slice_get b.leaves k ≡ Some l) (is : l.role ≡ role.Pipe p)
      (can : CanRead b.leaves b.nodes next) (takes : Takes net b.leaves b.nodes l p next) where
    abbrev with_register : Built
    with_register = set_leaf b k (register_of l p next)

    within : k < length b.leaves
    within = slice_get_within b.leaves k l here

    low : k < length net.leaves
    low = slice_get_within net.leaves k l at

    set_grown : (nodes : List Node) → Grown b.leaves nodes with_register.leaves nodes
    set_grown nodes = record {
      leaf = λ j x e. by j x e (cases_eq j k);
      node = λ j x e. e;
    }
      where
        by : (j : ℕ) (x : Leaf) → slice_get b.leaves j ≡ Some x → (j ≡ k) ⊎ (j ≡ k → ⊥) → (m : Leaf) × (slice_get with_register.leaves j ≡ Some m) × SameKind x m
        by j x e (inl s) =
            let same : l ≡ x = same_Some l x (sym here ∙ ap (slice_get b.leaves) (sym s) ∙ e) in (
              register_of l p next,
              ap (slice_get with_register.leaves) s ∙ write_same b.leaves k (register_of l p next) within,
              subst (λ (y : Leaf). SameKind y (register_of l p next)) same (record { typed = refl; clock = sym (ap is_clock is) }),
            )
        by j x e (inr s) = (x, write_other b.leaves k (register_of l p next) j s ∙ e, record { typed = refl; clock = refl })

    pub set_later : Later net b with_register
    set_later = record {
      grown = set_grown b.nodes;
      high = λ j m h e. write_other b.leaves k (register_of l p next) j (λ s. omega (arith, low, h, s)) ∙ e;
    }

    set_same : (w : Read) → reads_of (net_of net with_register) w ≡ reads_of (net_of net b) w
    set_same (read.Node j) = refl
    set_same (read.Leaf j) = by (cases_eq j k)
      where
        by : (j ≡ k) ⊎ (j ≡ k → ⊥) → leaf_reads (slice_get with_register.leaves j) ≡ leaf_reads (slice_get b.leaves j)
        by (inl s) =
            ap (λ (i : ℕ). leaf_reads (slice_get with_register.leaves i)) s ∙ ap leaf_reads (write_same b.leaves k (register_of l p next) within)
            ∙ sym (ap role_reads is) ∙ ap leaf_reads (sym here) ∙ ap (λ (i : ℕ). leaf_reads (slice_get b.leaves i)) (sym s)
        by (inr s) = ap leaf_reads (write_other b.leaves k (register_of l p next) j s)

    set_of : (w : Read) → IsOf (net_of net b) w → IsOf (net_of net with_register) w
    set_of (read.Node j) o = o
    set_of (read.Leaf j) o = omega (arith, length-set b.leaves k (register_of l p next), o)

    of_set : (w : Read) → IsOf (net_of net with_register) w → IsOf (net_of net b) w
    of_set (read.Node j) o = o
    of_set (read.Leaf j) o = omega (arith, length-set b.leaves k (register_of l p next), o)

    set_kept : (j : ℕ) (x : Leaf) → slice_get net.leaves j ≡ Some x → (m : Leaf) × (slice_get with_register.leaves j ≡ Some m) × Becomes net with_register.leaves with_register.nodes x m
    set_kept j x e = by (cases_eq j k)
      where
        by : (j ≡ k) ⊎ (j ≡ k → ⊥) → (m : Leaf) × (slice_get with_register.leaves j ≡ Some m) × Becomes net with_register.leaves with_register.nodes x m
        by (inl s) =
            let same : l ≡ x = same_Some l x (sym at ∙ ap (slice_get net.leaves) (sym s) ∙ e) in (
              register_of l p next,
              ap (slice_get with_register.leaves) s ∙ write_same b.leaves k (register_of l p next) within,
              subst (λ (y : Leaf). Becomes net with_register.leaves with_register.nodes y (register_of l p next)) same
                  (register p next is (can_read b.leaves b.nodes with_register.leaves with_register.nodes set_later.grown next can) (takes_later net b with_register set_later l p next takes)),
            )
        by (inr s) =
            let y = B.kept j x e in
            (y.0, write_other b.leaves k (register_of l p next) j s ∙ y.1, becomes_later net b with_register set_later x y.0 y.2)

    pub set_building : Building net order with_register
    set_building = record {
      kept = set_kept;
      hidden = λ j m e high. B.hidden j m (sym (write_other b.leaves k (register_of l p next) j (λ s. omega (arith, low, high, s))) ∙ e) high;
      more = B.more;
      nodes = B.nodes;
      are_nodes = are_nodes b.leaves with_register.leaves set_grown net.nodes B.more B.are_nodes;
      ordered = record {
        only = λ i v e. set_of v (B.ordered.only i v e);
        once = B.ordered.once;
        after = λ i v w e r. B.ordered.after i v w e (record { place = r.place; is = ap (λ (rs : List Read). slice_get rs r.place) (sym (set_same v)) ∙ r.is });
        all = λ v o. B.ordered.all v (of_set v o);
      };
    }

-- the leaves and nodes of the net stand where they stood
pub net_grown : (net : FlatNet) (order : List Read) (b : Built) → Building net order b → Grown net.leaves net.nodes b.leaves b.nodes
net_grown net order b B = record {
  leaf = λ k l e. let x = B.kept k l e in (x.0, x.1, kind l x.0 x.2);
  node = λ k n e. subst (λ (ns : List Node). slice_get ns k ≡ Some n) (sym B.nodes) (push_left net.nodes B.more k n e);
}
  where
    kind : (l m : Leaf) → Becomes net b.leaves b.nodes l m → SameKind l m
    kind l _ itself = record { typed = refl; clock = refl }
    kind l _ (register p next is can takes) = record { typed = refl; clock = sym (ap is_clock is) }
