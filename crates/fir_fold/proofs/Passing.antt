-- One more entry of the order is done: what holds of those before goes on to hold.
use Rattle.std.proofs.Common.{◌≡◌, ℕ, ◌+◌, ◌<◌, List, [], ◌∷◌, ◌++◌, length, map, refl, sym, ap, ◌∙◌, subst, ◌⊎◌, ⊎_elim, arith}
use Rattle.std.specs.Prelude.{slice_get, Option, Some}
use Rattle.std.proofs.lemmas.Option.{slice_get_within}
use Rattle.fir_base.specs.Lists.{In}
use Rattle.fir_base.proofs.Members.{map_same}
use Rattle.fir_base.proofs.Elements.{number_of}
use Rattle.fir_net.specs.declared.net.FlatNet.{FlatNet}
use Rattle.fir_net.specs.declared.node.Node.{Node}
use Rattle.fir_net.specs.declared.reads.Read.{Read}
use Rattle.fir_net.specs.declared.reads.Read.TheVariants as read
use Rattle.fir_net.specs.working.Dependence.{leaf_reads, node_reads, support_of}
use Rattle.fir_net.specs.working.IsOrder.{IsOrder}
use Rattle.fir_fold.specs.working.Standing.{Standing}
use Rattle.fir_fold.specs.working.Walking.{ArePlaced, IsStood, IsWalked, StandsBefore, Walking, read_by, reads_in}
use Rattle.fir_fold.proofs.Entries.{among, last_one, placed_again, sooner}
use Rattle.fir_fold.proofs.Stood.{Grows, Keeps, stood_carried}
use Rattle.fir_fold.proofs.Growing.{reads_before, stood_there}

module _ (net : FlatNet) (order : List Read) (ordered : IsOrder net order) (n : ℕ) (w : Walking) (h : IsWalked net order n w) (v : Read) (at : slice_get order n ≡ Some v) (s : Standing) (entries : List Read) where
  abbrev pub passed : Walking
  passed = record { stands = s; nodes = w.nodes; entries = entries }

  -- it is none of those before
  pub fresh : (x : Read) → StandsBefore order n x → v ≡ x → ⊥
  fresh x d e =
      let same : d.place ≡ n = ordered.once d.place n x d.is (at ∙ ap Some e) in
      let low = d.before in
      omega (arith, same, low)

  -- all others are read as before, and the entries are more
  pub record Sets : Type 0 where
    pub leaves_long : length s.leaves ≡ length net.leaves
    pub nodes_long : length s.nodes ≡ length net.nodes
    pub others : (x : Read) → (v ≡ x → ⊥) → read_by passed x ≡ read_by w x
    pub more : (r : Read) → In w.entries r → In entries r

  module _ (sets : Sets) where
    pub same_before : (x : Read) → StandsBefore order n x → read_by passed x ≡ read_by w x
    same_before x d = sets.others x (fresh x d)

    grows : Grows w passed
    grows = record { more = []; nodes = none w.nodes; entries = sets.more }
      where
        none : (ns : List Node) → ns ≡ ns ++ []
        none [] = refl
        none (m ∷ ns) = ap (λ (xs : List Node). m ∷ xs) (none ns)

    keeps : (x : Read) → StandsBefore order n x → Keeps net w passed grows x
    keeps x d = record {
      itself = same_before x d;
      reads = λ y r. let b = reads_before net order ordered n w h x y d r in (same_before y b, stood_there net order ordered n w h y b);
      leaf = λ k e. same_before (read.Leaf k) (h.only_leaves k (subst (In w.entries) e (h.stood x d).placed));
    }

    leaf_reads_again : (k : ℕ) → StandsBefore order n (read.Leaf k) → map (read_by passed) (leaf_reads (slice_get net.leaves k)) ≡ map (read_by w) (leaf_reads (slice_get net.leaves k))
    leaf_reads_again k d =
        map_same (read_by passed) (read_by w) (leaf_reads (slice_get net.leaves k))
        (λ x i. let p = number_of (leaf_reads (slice_get net.leaves k)) x i in same_before x (reads_before net order ordered n w h (read.Leaf k) x d (record { place = p.0; is = p.1 })))

    reads_again : (e : Read) → In w.entries e → reads_in net.leaves passed e ≡ reads_in net.leaves w e
    reads_again (read.Leaf k) i = leaf_reads_again k (h.only_leaves k i)
    reads_again (read.Node j) i = refl

    -- the entries that there were, in the new words
    pub placed_before : ArePlaced (reads_in net.leaves passed) w.entries
    placed_before = placed_again (reads_in net.leaves w) (reads_in net.leaves passed) w.entries h.placed reads_again

    operands : (j k : ℕ) (m : Node) → slice_get w.nodes j ≡ Some m → In (support_of m) (read.Leaf k) → read_by passed (read.Leaf k) ≡ read.Leaf k
    operands j k m is i =
        let low = within w.nodes j m is in
        let e = number_of w.entries (read.Node j) (h.nodes_placed j low) in
        let there = h.placed.after e.0 (read.Node j) (read.Leaf k) e.1 (subst (λ (o : Option Node). In (node_reads o) (read.Leaf k)) (sym is) i) in
        same_before (read.Leaf k) (h.only_leaves k (among w.entries e.0 (read.Leaf k) there)) ∙ h.operands j k m is i
      where
        within : (ns : List Node) (j : ℕ) (m : Node) → slice_get ns j ≡ Some m → j < length ns
        within = slice_get_within

    module _ (stood : IsStood net passed v) (placed : ArePlaced (reads_in net.leaves passed) entries) (only_nodes : (j : ℕ) → In entries (read.Node j) → In w.entries (read.Node j))
        (only_leaves : (k : ℕ) → In entries (read.Leaf k) → In w.entries (read.Leaf k) ⊎ (v ≡ read.Leaf k)) (here : (k : ℕ) → v ≡ read.Leaf k → In entries (read.Leaf k)) where
      stood_all : (x : Read) → StandsBefore order (n + 1) x → IsStood net passed x
      stood_all x d =
          ⊎_elim (λ (old : StandsBefore order n x). stood_carried net w passed grows x (keeps x old) (h.stood x old))
          (λ (new : v ≡ x). subst (IsStood net passed) new stood)
          (last_one order n v x at d)

      leaves_placed : (k : ℕ) → StandsBefore order (n + 1) (read.Leaf k) → In entries (read.Leaf k)
      leaves_placed k d =
          ⊎_elim (λ (old : StandsBefore order n (read.Leaf k)). sets.more (read.Leaf k) (h.leaves_placed k old)) (λ (new : v ≡ read.Leaf k). here k new) (last_one order n v (read.Leaf k) at d)

      leaves_done : (k : ℕ) → In entries (read.Leaf k) → StandsBefore order (n + 1) (read.Leaf k)
      leaves_done k i =
          ⊎_elim (λ (old : In w.entries (read.Leaf k)). sooner order n (n + 1) (read.Leaf k) (omega arith) (h.only_leaves k old))
          (λ (new : v ≡ read.Leaf k). record { place = n; before = omega arith; is = at ∙ ap Some new })
          (only_leaves k i)

      pub walked_passed : IsWalked net order (n + 1) passed
      walked_passed = record {
        leaves_long = sets.leaves_long;
        nodes_long = sets.nodes_long;
        nodes = h.nodes;
        folded = h.folded;
        operands = operands;
        stood = stood_all;
        placed = placed;
        nodes_placed = λ j low. sets.more (read.Node j) (h.nodes_placed j low);
        only_nodes = λ j i. h.only_nodes j (only_nodes j i);
        leaves_placed = leaves_placed;
        only_leaves = leaves_done;
      }
