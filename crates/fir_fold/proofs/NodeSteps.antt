-- A node is passed: what stands for it is what its rule gives, over what stands for its operands.
use Rattle.std.proofs.Common.{◌≡◌, ℕ, ◌+◌, ◌<◌, List, [], length, map, refl, sym, ap, ◌∙◌, subst, inl, arith, append-nil, length-set, unwrap_or, option_map}
use Rattle.std.specs.Prelude.{slice_get, slice_set, Option, Some}
use Rattle.std.proofs.lemmas.Option.{slice_get_within}
use Rattle.fir_base.specs.Lists.{In}
use Rattle.fir_base.proofs.Elements.{all_there, number_of, there}
use Rattle.fir_base.proofs.Members.{in_map_from}
use Rattle.fir_base.proofs.Writes.{write_same, write_other}
use Rattle.fir_bits.specs.Forms.{no_type}
use Rattle.fir_net.specs.declared.net.FlatNet.{FlatNet}
use Rattle.fir_net.specs.declared.node.Node.{Node}
use Rattle.fir_net.specs.declared.node.Node.TheVariants as node
use Rattle.fir_net.specs.declared.reads.Read.{Read}
use Rattle.fir_net.specs.declared.reads.Read.TheVariants as read
use Rattle.fir_net.specs.working.Dependence.{node_reads, support_of}
use Rattle.fir_net.specs.working.IsNet.{CanRead, IsNet, IsNode, node_type, read_type}
use Rattle.fir_net.specs.working.IsOrder.{IsOrder}
use Rattle.fir_net.proofs.WholeNodes.{all_nodes}
use Rattle.fir_fold_rules.specs.declared.replacement.Replacement.{Replacement}
use Rattle.fir_fold_rules.specs.declared.replacement.Replacement.TheVariants as by
use Rattle.fir_fold_rules.specs.working.Replaces.{IsWithin, Replaces, among as among_these, of_node}
use Rattle.fir_fold_rules.specs.working.Simplifies.{Simplifies}
use Rattle.fir_fold.specs.working.Standing.{Standing, node_read, stands_for}
use Rattle.fir_fold.specs.working.Walking.{IsBy, IsStood, IsWalked, PassesNode, PutsFor, StandsBefore, Walking, read_by}
use Rattle.fir_fold.proofs.Carried.{node_carried}
use Rattle.fir_fold.proofs.Entries.{among}
use Rattle.fir_fold.proofs.Growing.{walked_put}
use Rattle.fir_fold.proofs.Passing.{Sets, fresh, placed_before, walked_passed}
use Rattle.fir_fold.proofs.Stood.{Grows, node_same, reads_node}

pub support_read : (f : Read → Read) (m : Node) → support_of (node_read f m) ≡ map f (support_of m)
support_read f (node.Literal v) = refl
support_read f (node.Operation o) = refl
support_read f (node.Mux m) = refl

pub type_read : (f : Read → Read) (m : Node) → node_type (node_read f m) ≡ node_type m
type_read f (node.Literal v) = refl
type_read f (node.Operation o) = refl
type_read f (node.Mux m) = refl

module _ (net : FlatNet) (order : List Read) (ordered : IsOrder net order) (n : ℕ) (w : Walking) (h : IsWalked net order n w) where
  -- what is within others is an entry with them, and where it is a leaf it is read as itself
  pub within_placed : (rs : List Read) → ((r : Read) → In rs r → In w.entries r) → (r : Read) → IsWithin w.nodes rs r → In w.entries r
  within_placed rs each _ (among_these r i) = each r i
  within_placed rs each _ (of_node j r deep i) =
      let e = number_of w.entries (read.Node j) (within_placed rs each (read.Node j) deep) in
      among w.entries e.0 r (h.placed.after e.0 (read.Node j) r e.1 i)

  pub within_settled : (rs : List Read) → ((r : Read) → In rs r → In w.entries r) → ((r : Read) → In rs r → (j : ℕ) → r ≡ read.Leaf j → read_by w (read.Leaf j) ≡ read.Leaf j)
      → (r : Read) → IsWithin w.nodes rs r → (j : ℕ) → r ≡ read.Leaf j → read_by w (read.Leaf j) ≡ read.Leaf j
  within_settled rs placed each _ (among_these r i) j e = each r i j e
  within_settled rs placed each _ (of_node x r deep i) j e =
      let m = there w.nodes x (h.only_nodes x (within_placed rs placed (read.Node x) deep)) in
      h.operands x j m.0 m.1 (subst (In (support_of m.0)) e (subst (λ (o : Option Node). In (node_reads o) r) m.1 i))

  module _ (whole : IsNet net) (k : ℕ) (m : Node) (at : slice_get order n ≡ Some (read.Node k)) (is : slice_get net.nodes k ≡ Some m) where
    -- with a read set for it
    abbrev passes : Walking → Read → Walking
    passes mid r = record { stands = record { leaves = mid.stands.leaves; nodes = slice_set mid.stands.nodes k r }; nodes = mid.nodes; entries = mid.entries }

    done : (x : Read) → In (support_of m) x → StandsBefore order n x
    done x i = let a = ordered.after n (read.Node k) x at (reads_node net k m x is i) in record { place = a.0; before = a.1; is = a.2 }

    pub node_ready : IsNode net.leaves w.nodes (node_read (read_by w) m)
    node_ready =
        node_carried net.leaves net.nodes net.leaves w.nodes (read_by w) m (all_there (IsNode net.leaves net.nodes) net.nodes (all_nodes net.leaves net.nodes whole.nodes) k m is)
        (λ r i can. let s = h.stood r (done r i) in record { can = s.can can; has_type = s.has_type can })

    operand_of : (r : Read) → In (support_of (node_read (read_by w) m)) r → (x : Read) × In (support_of m) x × (read_by w x ≡ r)
    operand_of r i = in_map_from (read_by w) (support_of m) r (subst (λ (rs : List Read). In rs r) (support_read (read_by w) m) i)

    operand_placed : (r : Read) → In (support_of (node_read (read_by w) m)) r → In w.entries r
    operand_placed r i = let x = operand_of r i in subst (In w.entries) x.2 (h.stood x.0 (done x.0 x.1)).placed

    operand_settled : (r : Read) → In (support_of (node_read (read_by w) m)) r → (j : ℕ) → r ≡ read.Leaf j → read_by w (read.Leaf j) ≡ read.Leaf j
    operand_settled r i j e = let x = operand_of r i in (h.stood x.0 (done x.0 x.1)).settled j (x.2 ∙ e)

    reads_placed : (r : Read) → IsWithin w.nodes (support_of (node_read (read_by w) m)) r → In w.entries r
    reads_placed r deep = within_placed (support_of (node_read (read_by w) m)) operand_placed r deep

    reads_settled : (r : Read) → IsWithin w.nodes (support_of (node_read (read_by w) m)) r → (j : ℕ) → r ≡ read.Leaf j → read_by w (read.Leaf j) ≡ read.Leaf j
    reads_settled r deep j e = within_settled (support_of (node_read (read_by w) m)) operand_placed operand_settled r deep j e

    -- ---- what stands for it is set
    module _ (mid : Walking) (hm : IsWalked net order n mid) (g : Grows w mid) (same : mid.stands ≡ w.stands) (r : Read) where
      abbrev after : Walking
      after = passes mid r

      others : (x : Read) → (read.Node k ≡ x → ⊥) → read_by after x ≡ read_by mid x
      others (read.Leaf j) differs = refl
      others (read.Node j) differs = ap (λ (o : Option Read). unwrap_or o (read.Node j)) (write_other mid.stands.nodes k r j (λ e. differs (ap read.Node (sym e))))

      low : k < length mid.stands.nodes
      low = let a = slice_get_within net.nodes k m is in omega (arith, a, hm.nodes_long)

      here : read_by after (read.Node k) ≡ r
      here = ap (λ (o : Option Read). unwrap_or o (read.Node k)) (write_same mid.stands.nodes k r low)

      sets : Sets net order ordered n mid hm (read.Node k) at after.stands mid.entries
      sets = record { leaves_long = hm.leaves_long; nodes_long = length-set mid.stands.nodes k r ∙ hm.nodes_long; others = others; more = λ x i. i }

      same_operand : (x : Read) → In (support_of m) x → read_by after x ≡ read_by w x
      same_operand x i = others x (fresh net order ordered n mid hm (read.Node k) at after.stands mid.entries x (done x i)) ∙ ap (λ (s : Standing). stands_for s x) same

      module _ (replacement : Replacement) (replaces : Replaces net.leaves w.nodes (node_read (read_by w) m) replacement) (stands : IsBy mid.nodes replacement r)
          (can : CanRead net.leaves mid.nodes r) (typed : read_type net.leaves mid.nodes r ≡ node_type m) (placed : In mid.entries r)
          (settled : (j : ℕ) → r ≡ read.Leaf j → read_by w (read.Leaf j) ≡ read.Leaf j) where
        is_by : (b : Replacement) (s t : Read) → t ≡ s → IsBy mid.nodes b s → IsBy mid.nodes b t
        is_by (by.Read x) s t e y = e ∙ y
        is_by (by.Node x) s t e y = (y.0, e ∙ y.1, y.2)

        stood : IsStood net after (read.Node k)
        stood = record {
          can = λ c. subst (CanRead net.leaves mid.nodes) (sym here) can;
          has_type = λ c. ap (read_type net.leaves mid.nodes) here ∙ typed ∙ sym (ap (λ (o : Option Node). unwrap_or (option_map node_type o) no_type) is);
          placed = subst (In mid.entries) (sym here) placed;
          settled = λ j e. ap (λ (s : Standing). stands_for s (read.Leaf j)) same ∙ settled j (sym here ∙ e);
          stands = (
            m,
            is,
            record {
              before = w.nodes;
              behind = g.more;
              parts = g.nodes;
              replacement = replacement;
              replaces = subst (λ (x : Node). Replaces net.leaves w.nodes x replacement) (sym (node_same (read_by after) (read_by w) m same_operand)) replaces;
              is = is_by replacement r (read_by after (read.Node k)) here stands;
            },
          );
        }

        finish : IsWalked net order (n + 1) after
        finish =
            walked_passed net order ordered n mid hm (read.Node k) at after.stands mid.entries sets stood
            (placed_before net order ordered n mid hm (read.Node k) at after.stands mid.entries sets)
            (λ j i. i) (λ j i. inl i) (λ j e. cc)

    unchanged : Grows w w
    unchanged = record { more = []; nodes = sym (append-nil w.nodes); entries = λ x i. i }

    by_rule : (mid : Walking) (r : Read) (b : Replacement) → Simplifies net.leaves w.nodes (node_read (read_by w) m) b → PutsFor w mid b r
        → IsWalked net order (n + 1) (passes mid r)
    by_rule mid r (by.Read x) s p =
        subst (λ (u : Walking). IsWalked net order (n + 1) (passes u r)) (sym p.1)
        (subst (λ (y : Read). IsWalked net order (n + 1) (passes w y)) (sym p.0)
        (let f = s.replaces in
        finish w h unchanged refl x (by.Read x) f refl f.can (f.has_type ∙ type_read (read_by w) m) (reads_placed x f.within) (reads_settled x f.within)))
    by_rule mid r (by.Node x) s p =
        let f = s.replaces in
        let grown = walked_put net order ordered n w h x f.whole s.folded (λ y i. reads_placed y (f.within y i)) (λ j i. reads_settled (read.Leaf j) (f.within (read.Leaf j) i) j refl) r mid p in
        let low : p.number < length mid.nodes = slice_get_within mid.nodes p.number x p.at in
        finish mid grown.0 grown.1 p.stands r (by.Node x) f (p.number, p.is, p.at) (subst (CanRead net.leaves mid.nodes) (sym p.is) low)
        (ap (read_type net.leaves mid.nodes) p.is ∙ ap (λ (o : Option Node). unwrap_or (option_map node_type o) no_type) p.at ∙ f.has_type ∙ type_read (read_by w) m)
        (subst (In mid.entries) (sym p.is) (grown.0.nodes_placed p.number low)) (λ j e. let clash : read.Node p.number ≡ read.Leaf j = sym p.is ∙ e in cc)

    pub node_step : (new : Walking) → PassesNode net.leaves k m w new → IsWalked net order (n + 1) new
    node_step new p = subst (IsWalked net order (n + 1)) (sym p.is) (by_rule p.put p.by p.replacement p.simplifies p.puts)
