-- What holds on the way goes on to hold where a node is put behind the others.
use Rattle.std.proofs.Common.{◌≡◌, ℕ, ◌<◌, ◌≤◌, List, [], ◌∷◌, ◌++◌, length, refl, sym, ap, ◌∙◌, subst, inl, inr, ◌⊎◌, ⊎_elim, arith, append_assoc, append-nil, length-append}
use Rattle.std.specs.Prelude.{slice_get, Option, Some}
use Rattle.std.proofs.lemmas.Bool.{cases_lt}
use Rattle.fir_base.specs.Lists.{In}
use Rattle.fir_base.proofs.Elements.{all_there, get_behind, get_left, number_of}
use Rattle.fir_base.proofs.Members.{in_either, in_left, in_right}
use Rattle.fir_net.specs.declared.leaf.Leaf.{Leaf}
use Rattle.fir_net.specs.declared.net.FlatNet.{FlatNet}
use Rattle.fir_net.specs.declared.node.Node.{Node}
use Rattle.fir_net.specs.declared.reads.Read.{Read}
use Rattle.fir_net.specs.declared.reads.Read.TheVariants as read
use Rattle.fir_net.specs.working.Dependence.{Reads, node_reads, support_of}
use Rattle.fir_net.specs.working.IsNet.{AreNodes, IsNode}
use Rattle.fir_net.specs.working.IsOrder.{IsOrder}
use Rattle.fir_net.proofs.NodeReads.{reads_can}
use Rattle.fir_net.proofs.WholeNodes.{all_nodes}
use Rattle.fir_fold_rules.specs.working.Simplifies.{IsFoldedNode}
use Rattle.fir_fold.specs.working.Standing.{Standing}
use Rattle.fir_fold.specs.working.Walking.{IsWalked, Puts, StandsBefore, Walking, read_by, reads_in}
use Rattle.fir_fold.proofs.Entries.{at_end, placed_again, placed_more}
use Rattle.fir_fold.proofs.Stood.{Grows, IsThere, Keeps, can_there, folded_more, stood_carried}

nodes_joined : (leaves : List Leaf) (before xs ys : List Node) → AreNodes leaves before xs → AreNodes leaves (before ++ xs) ys → AreNodes leaves before (xs ++ ys)
nodes_joined leaves before [] ys h g = subst (λ (b : List Node). AreNodes leaves b ys) (append-nil before) g
nodes_joined leaves before (x ∷ xs) ys h g =
    (h.0, nodes_joined leaves (before ++ x ∷ []) xs ys h.1 (subst (λ (b : List Node). AreNodes leaves b ys) (sym (append_assoc before (x ∷ []) xs)) g))

pub same_walking : (s t : Standing) (m n : List Node) (x y : List Read) → s ≡ t → m ≡ n → x ≡ y
    → ◌≡◌ {A = Walking} (record { stands = s; nodes = m; entries = x }) (record { stands = t; nodes = n; entries = y })
same_walking s t m n x y e f g = rw (e, f, g) refl

module _ (net : FlatNet) (order : List Read) (ordered : IsOrder net order) (n : ℕ) (w : Walking) (h : IsWalked net order n w) where
  pub in_there : (r : Read) → In w.entries r → IsThere w.nodes r
  in_there (read.Leaf k) m = tt
  in_there (read.Node j) m = h.only_nodes j m

  pub reads_before : (v x : Read) → StandsBefore order n v → Reads net v x → StandsBefore order n x
  reads_before v x d r = let a = ordered.after d.place v x d.is r in record { place = a.0; before = omega (arith, a.1, d.before); is = a.2 }

  pub stood_there : (v : Read) → StandsBefore order n v → IsThere w.nodes (read_by w v)
  stood_there v d = in_there (read_by w v) (h.stood v d).placed

  pub operand_there : (k : ℕ) (m : Node) → slice_get w.nodes k ≡ Some m → (r : Read) → In (support_of m) r → IsThere w.nodes r
  operand_there k m at r i =
      let is = all_there (IsNode net.leaves w.nodes) w.nodes (all_nodes net.leaves w.nodes h.nodes) k m at in
      let p = number_of (support_of m) r i in
      can_there net.leaves w.nodes r (reads_can net.leaves w.nodes m is p.0 r p.1)

  module _ (m : Node) (is : IsNode net.leaves w.nodes m) (folds : IsFoldedNode w.nodes m) (placed : (r : Read) → In (support_of m) r → In w.entries r)
      (settled : (k : ℕ) → In (support_of m) (read.Leaf k) → read_by w (read.Leaf k) ≡ read.Leaf k) where
    abbrev pub added : Walking
    added = record { stands = w.stands; nodes = w.nodes ++ m ∷ []; entries = w.entries ++ read.Node (length w.nodes) ∷ [] }

    grows : Grows w added
    grows = record { more = m ∷ []; nodes = refl; entries = λ r i. in_left w.entries (read.Node (length w.nodes) ∷ []) r i }

    keeps : (v : Read) → StandsBefore order n v → Keeps net w added grows v
    keeps v d = record { itself = refl; reads = λ x r. (refl, stood_there x (reads_before v x d r)); leaf = λ k e. refl }

    folded : (k : ℕ) (x : Node) → slice_get (w.nodes ++ m ∷ []) k ≡ Some x → IsFoldedNode (w.nodes ++ m ∷ []) x
    folded k x at =
        ⊎_elim (λ (old : slice_get w.nodes k ≡ Some x). folded_more w.nodes (m ∷ []) x (operand_there k x old) (h.folded k x old))
        (λ (new : (k ≡ length w.nodes) × (m ≡ x)). subst (IsFoldedNode (w.nodes ++ m ∷ [])) new.1 (folded_more w.nodes (m ∷ []) m (λ r i. in_there r (placed r i)) folds))
        (at_end w.nodes m x k at)

    operands : (j k : ℕ) (x : Node) → slice_get (w.nodes ++ m ∷ []) j ≡ Some x → In (support_of x) (read.Leaf k) → read_by w (read.Leaf k) ≡ read.Leaf k
    operands j k x at i =
        ⊎_elim (λ (old : slice_get w.nodes j ≡ Some x). h.operands j k x old i)
        (λ (new : (j ≡ length w.nodes) × (m ≡ x)). settled k (subst (λ (y : Node). In (support_of y) (read.Leaf k)) (sym new.1) i))
        (at_end w.nodes m x j at)

    new_entry : In w.entries (read.Node (length w.nodes)) → ⊥
    new_entry i = let low = h.only_nodes (length w.nodes) i in omega (arith, low)

    reads_again : (v : Read) → In w.entries v → reads_in net.leaves added v ≡ reads_in net.leaves w v
    reads_again (read.Leaf k) i = refl
    reads_again (read.Node j) i = ap node_reads (get_left w.nodes (m ∷ []) j (h.only_nodes j i))

    read_here : (r : Read) → In (reads_in net.leaves added (read.Node (length w.nodes))) r → In w.entries r
    read_here r i = placed r (subst (λ (o : Option Node). In (node_reads o) r) (get_behind w.nodes [] m) i)

    nodes_placed : (j : ℕ) → j < length (w.nodes ++ m ∷ []) → In added.entries (read.Node j)
    nodes_placed j low =
        ⊎_elim (λ (less : j < length w.nodes). grows.entries (read.Node j) (h.nodes_placed j less))
        (λ (high : length w.nodes ≤ j).
        let same : length w.nodes ≡ j = omega (arith, high, low, length-append w.nodes (m ∷ [])) in
        in_right w.entries (read.Node (length w.nodes) ∷ []) (read.Node j) (inl (ap read.Node same)))
        (cases_lt j (length w.nodes))

    only_nodes : (j : ℕ) → In added.entries (read.Node j) → j < length (w.nodes ++ m ∷ [])
    only_nodes j i = by (in_either w.entries (read.Node (length w.nodes) ∷ []) (read.Node j) i)
      where
        by : In w.entries (read.Node j) ⊎ In (read.Node (length w.nodes) ∷ []) (read.Node j) → j < length (w.nodes ++ m ∷ [])
        by (inl old) = let low = h.only_nodes j old in omega (arith, low, length-append w.nodes (m ∷ []))
        by (inr (inl e)) = let same : length w.nodes ≡ j = cc in omega (arith, same, length-append w.nodes (m ∷ []))
        by (inr (inr x)) = absurd x

    only_leaves : (k : ℕ) → In added.entries (read.Leaf k) → StandsBefore order n (read.Leaf k)
    only_leaves k i = by (in_either w.entries (read.Node (length w.nodes) ∷ []) (read.Leaf k) i)
      where
        by : In w.entries (read.Leaf k) ⊎ In (read.Node (length w.nodes) ∷ []) (read.Leaf k) → StandsBefore order n (read.Leaf k)
        by (inl old) = h.only_leaves k old
        by (inr (inl e)) = cc
        by (inr (inr x)) = absurd x

    grown : IsWalked net order n added
    grown = record {
      leaves_long = h.leaves_long;
      nodes_long = h.nodes_long;
      nodes = nodes_joined net.leaves [] w.nodes (m ∷ []) h.nodes (is, tt);
      folded = folded;
      operands = operands;
      stood = λ v d. stood_carried net w added grows v (keeps v d) (h.stood v d);
      placed = placed_more (reads_in net.leaves added) w.entries (read.Node (length w.nodes)) (placed_again (reads_in net.leaves w) (reads_in net.leaves added) w.entries h.placed reads_again) new_entry read_here;
      nodes_placed = nodes_placed;
      only_nodes = only_nodes;
      leaves_placed = λ k d. grows.entries (read.Leaf k) (h.leaves_placed k d);
      only_leaves = only_leaves;
    }

    pub walked_put : (r : Read) (new : Walking) → Puts w new m r → IsWalked net order n new × Grows w new
    walked_put r new p = by p.grown
      where
        by : ((new.nodes ≡ w.nodes) × (new.entries ≡ w.entries)) ⊎ ((new.nodes ≡ w.nodes ++ m ∷ []) × (new.entries ≡ w.entries ++ read.Node (length w.nodes) ∷ []))
            → IsWalked net order n new × Grows w new
        by (inl e) = (
          subst (IsWalked net order n) (sym (same_walking new.stands w.stands new.nodes w.nodes new.entries w.entries p.stands e.0 e.1)) h,
          record { more = []; nodes = e.0 ∙ sym (append-nil w.nodes); entries = λ x i. subst (λ (es : List Read). In es x) (sym e.1) i },
        )
        by (inr e) = (
          subst (IsWalked net order n) (sym (same_walking new.stands w.stands new.nodes (w.nodes ++ m ∷ []) new.entries added.entries p.stands e.0 e.1)) grown,
          record { more = m ∷ []; nodes = e.0; entries = λ x i. subst (λ (es : List Read). In es x) (sym e.1) (grows.entries x i) },
        )
