-- The leaves that are reached from a read of a whole net, through nodes alone, are those that the term reads for which it stands.
use Rattle.std.proofs.Common.{◌≡◌, ◌↔◌, ⊎_elim, ℕ, zero, suc, ◌<◌, ◌≤◌, List, [], ◌∷◌, length, map, Bool, Some, refl, sym, ap, ◌∙◌, subst, inl, inr, ◌⊎◌, arith, append_assoc, append-nil}
use Rattle.std.specs.Prelude.{slice_get}
use Rattle.std.proofs.lemmas.Bool.{cases_lt}
use Rattle.std.proofs.lemmas.List.{get_or_past}
use Rattle.std.proofs.lemmas.Option.{none-some, same_Some}
use Rattle.fir_base.specs.Lists.{In}
use Rattle.fir_base.proofs.Elements.{there}
use Rattle.fir_base.proofs.Members.{in_either, in_left, in_right}
use Rattle.fir_bits.specs.Forms.{no_type}
use Rattle.fir_bits.specs.declared.types.NumTy.{NumTy}
use Rattle.fir_net.specs.declared.leaf.Leaf.{Leaf}
use Rattle.fir_net.specs.declared.net.FlatNet.{FlatNet}
use Rattle.fir_net.specs.declared.node.Node.{Node}
use Rattle.fir_net.specs.declared.node.Node.TheVariants as node
use Rattle.fir_net.specs.declared.reads.Read.{Read}
use Rattle.fir_net.specs.declared.reads.Read.TheVariants as read
use Rattle.fir_net.specs.working.Dependence.{node_reads, reads_of, support_of}
use Rattle.fir_net.specs.working.IsNet.{IsChoice, IsNet, IsNode, node_type, read_type}
use Rattle.fir_net.proofs.NodeReads.{node_at}
use Rattle.fir_loop.specs.working.IsLoop.{HangsThrough}
use Rattle.fir_loop.proofs.NetReads.{goes_down, reads_from}
use Rattle.fir_inits.specs.working.ShowsInit.{ReadsLeaf}
use Rattle.fir_connect.specs.working.Lowered.{zero_of}
use Rattle.fir_connect.specs.working.NetReads.{each_read, net_reads}
use Rattle.fir_connect.specs.working.NetTerms.{NetTerm}
use Rattle.fir_merge.specs.working.NodeTerms.{chosen_term, node_term, read_term, read_terms, terms}
use Rattle.fir_merge.proofs.GrownTerms.{length-terms}
use Rattle.fir_flat.specs.working.FlatCircuits.{stands_for}
use Rattle.fir_flat.proofs.ReadBefore.{node_stands}

-- one of these, of which that holds
record OneOf (P : Read → Type 0) (rs : List Read) : Type 0 where
  place : ℕ
  one : Read
  at : slice_get rs place ≡ Some one
  holds : P one

one_more : (P : Read → Type 0) (r : Read) (rs : List Read) → OneOf P rs → OneOf P (r ∷ rs)
one_more P r rs o = record { place = suc o.place; one = o.one; at = o.at; holds = o.holds }

only_in : (x y : ℕ) → In (x ∷ []) y → x ≡ y
only_in x y (inl e) = e
only_in x y (inr m) = absurd m

module _ (known : List NetTerm) (y : ℕ) where
  -- what a read stands for reads the leaf
  abbrev TermReads : Read → Type 0
  TermReads r = In (net_reads (read_term known r)) y

  each_one : (rs : List Read) → In (each_read (read_terms known rs)) y → OneOf TermReads rs
  each_one [] m = absurd m
  each_one (r ∷ rs) m =
      ⊎_elim
      (λ (h : TermReads r). record { place = 0; one = r; at = refl; holds = h })
      (λ (h : In (each_read (read_terms known rs)) y). one_more TermReads r rs (each_one rs h))
      (in_either (net_reads (read_term known r)) (each_read (read_terms known rs)) y m)

  one_each : (rs : List Read) (place : ℕ) (r : Read) → slice_get rs place ≡ Some r → TermReads r → In (each_read (read_terms known rs)) y
  one_each [] place r at h = absurd (none-some r at)
  one_each (s ∷ rs) zero r at h =
      in_left (net_reads (read_term known s)) (each_read (read_terms known rs)) y (subst TermReads (sym (same_Some s r at)) h)
  one_each (s ∷ rs) (suc place) r at h =
      in_right (net_reads (read_term known s)) (each_read (read_terms known rs)) y (one_each rs place r at h)

-- what a node stands for reads what each of its operands stands for
module _ (leaves : List Leaf) (before : List Node) (known : List NetTerm) where
  mux_reads : (rs : List Read) (signed : Bool) (width : ℕ) (t : NumTy) → IsChoice t (map (read_type leaves before) rs)
      → net_reads (chosen_term known rs signed width) ≡ each_read (read_terms known rs)
  mux_reads [] signed width t is = absurd is
  mux_reads (c ∷ []) signed width t is = absurd is
  mux_reads (c ∷ a ∷ []) signed width t is = absurd is
  mux_reads (c ∷ a ∷ b ∷ []) signed width t is = rw (append-nil (net_reads (read_term known b)), append_assoc) refl
  mux_reads (c ∷ a ∷ b ∷ d ∷ rs) signed width t is = absurd is

  node_reads_are : (n : Node) → IsNode leaves before n → net_reads (node_term known n) ≡ each_read (read_terms known (support_of n))
  node_reads_are (node.Literal v) is = refl
  node_reads_are (node.Operation o) is = refl
  node_reads_are (node.Mux m) is = mux_reads m.reads m.signed m.width (node_type (node.Mux m)) is.has_type

module _ (net : FlatNet) where
  abbrev pub HangsOnLeaf : ℕ → Read → Type 0
  HangsOnLeaf y v = (nodes : List ℕ) × HangsThrough net v nodes (read.Leaf y)

  -- what hangs on a leaf through nodes reads one from which the leaf is reached, and the other way round
  begins : (v : Read) (nodes : List ℕ) (y : ℕ) → HangsThrough net v nodes (read.Leaf y) → OneOf (λ r. ReadsLeaf net r y) (reads_of net v)
  begins v [] y h = record { place = h.place; one = read.Leaf y; at = h.is; holds = refl }
  begins v (n ∷ ns) y h = record { place = h.0.place; one = read.Node n; at = h.0.is; holds = (ns, h.1) }

  hangs : (v : Read) (y place : ℕ) (r : Read) → slice_get (reads_of net v) place ≡ Some r → ReadsLeaf net r y → HangsOnLeaf y v
  hangs v y place (read.Leaf x) at e = ([], record { place = place; is = at ∙ ap (λ z. Some (read.Leaf z)) e })
  hangs v y place (read.Node k) at h = (k ∷ h.0, (record { place = place; is = at }, h.1))

  module _ (whole : IsNet net) where
    node_reads_at : (k : ℕ) (n : Node) → slice_get net.nodes k ≡ Some n
        → net_reads (stands_for net.nodes (read.Node k)) ≡ each_read (read_terms (terms net.nodes) (reads_of net (read.Node k)))
    node_reads_at k n at =
        ap net_reads (node_stands net whole k n at)
        ∙ node_reads_are net.leaves _ (terms net.nodes) n (node_at net.leaves net.nodes [] whole.nodes k n at)
        ∙ ap (λ (o : _). each_read (read_terms (terms net.nodes) (node_reads o))) (sym at)

    module _ (y : ℕ) where
      abbrev Reading : Read → Type 0
      Reading = TermReads (terms net.nodes) y

      read_through : (k place : ℕ) (r : Read) → slice_get (reads_of net (read.Node k)) place ≡ Some r → Reading r → Reading (read.Node k)
      read_through k place r at h =
          let n = there net.nodes k (reads_from net (read.Node k) r (record { place = place; is = at })) in
          subst (λ (xs : List ℕ). In xs y) (sym (node_reads_at k n.0 n.1)) (one_each (terms net.nodes) y (reads_of net (read.Node k)) place r at h)

      read_along : (k : ℕ) (nodes : List ℕ) → HangsThrough net (read.Node k) nodes (read.Leaf y) → Reading (read.Node k)
      read_along k [] h = read_through k h.place (read.Leaf y) h.is (inl refl)
      read_along k (n ∷ ns) h = read_through k h.0.place (read.Node n) h.0.is (read_along n ns h.1)

      -- where this holds of all nodes before one, it holds of that one
      reached_next : (k : ℕ) → ((j : ℕ) → j < k → Reading (read.Node j) → ReadsLeaf net (read.Node j) y) → Reading (read.Node k) → ReadsLeaf net (read.Node k) y
      reached_next k earlier m = by (cases_lt k (length net.nodes))
        where
          reached_one : (place : ℕ) (r : Read) → slice_get (reads_of net (read.Node k)) place ≡ Some r → Reading r → ReadsLeaf net r y
          reached_one place (read.Leaf x) at h = only_in x y h
          reached_one place (read.Node j) at h = earlier j (goes_down net whole k j (record { place = place; is = at })) h

          by : (k < length net.nodes) ⊎ (length net.nodes ≤ k) → ReadsLeaf net (read.Node k) y
          by (inl within) =
              let n = there net.nodes k within in
              let o = each_one (terms net.nodes) y (reads_of net (read.Node k)) (subst (λ (xs : List ℕ). In xs y) (node_reads_at k n.0 n.1) m) in
              hangs (read.Node k) y o.place o.one o.at (reached_one o.place o.one o.at o.holds)
          by (inr past) =
              absurd (subst (λ (t : NetTerm). In (net_reads t) y)
              (get_or_past (terms net.nodes) k (zero_of no_type) (omega (arith, past, length-terms net.nodes))) m)

      reached_below : (bound k : ℕ) → k < bound → Reading (read.Node k) → ReadsLeaf net (read.Node k) y
      reached_below zero k lt m = absurd (omega (arith, lt))
      reached_below (suc bound) k lt m = reached_next k (λ j less. reached_below bound j (omega (arith, lt, less))) m

      read_of : (r : Read) → ReadsLeaf net r y → Reading r
      read_of (read.Leaf x) e = inl e
      read_of (read.Node k) h = read_along k h.0 h.1

      reached : (r : Read) → Reading r → ReadsLeaf net r y
      reached (read.Leaf x) h = only_in x y h
      reached (read.Node k) h = reached_below (suc k) k (omega arith) h

      -- a read reaches the leaves that the term reads for which it stands
      pub reaches_is_read : (r : Read) → ReadsLeaf net r y ↔ Reading r
      reaches_is_read r = (read_of r, reached r)

      -- a leaf or a node hangs through nodes on the leaves that the terms read for which its reads stand
      pub hangs_is_read : (v : Read) → HangsOnLeaf y v ↔ In (each_read (read_terms (terms net.nodes) (reads_of net v))) y
      hangs_is_read v = (
        λ h. let o = begins v h.0 y h.1 in one_each (terms net.nodes) y (reads_of net v) o.place o.one o.at (read_of o.one o.holds),
        λ m. let o = each_one (terms net.nodes) y (reads_of net v) m in hangs v y o.place o.one o.at (reached o.one o.holds),
      )
