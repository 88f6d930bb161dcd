-- What stands for a leaf or a node goes on standing for it where nodes are put behind the others and other reads are set.
use Rattle.std.proofs.Common.{◌≡◌, ℕ, ◌<◌, List, ◌++◌, length, refl, sym, ap, ◌∙◌, subst, inl, arith, append_assoc, length-append, unwrap_or, option_map}
use Rattle.std.specs.Prelude.{slice_get, Option, Some}
use Rattle.fir_base.specs.Lists.{In}
use Rattle.fir_base.proofs.Elements.{get_left, get_in, number_of}
use Rattle.fir_base.proofs.Members.{map_same}
use Rattle.fir_bits.specs.Forms.{no_type}
use Rattle.fir_net.specs.declared.leaf.Leaf.{Leaf}
use Rattle.fir_net.specs.declared.leaf.Role.{Role}
use Rattle.fir_net.specs.declared.leaf.Role.TheVariants as role
use Rattle.fir_net.specs.declared.net.FlatNet.{FlatNet}
use Rattle.fir_net.specs.declared.node.Node.{Node}
use Rattle.fir_net.specs.declared.node.Node.TheVariants as node
use Rattle.fir_net.specs.declared.reads.Read.{Read}
use Rattle.fir_net.specs.declared.reads.Read.TheVariants as read
use Rattle.fir_net.specs.working.Dependence.{Reads, leaf_reads, node_reads, role_reads, support_of}
use Rattle.fir_net.specs.working.IsNet.{CanRead, node_type, read_type}
use Rattle.fir_net.specs.working.Settled.{driver}
use Rattle.fir_fold_rules.specs.declared.replacement.Replacement.{Replacement}
use Rattle.fir_fold_rules.specs.declared.replacement.Replacement.TheVariants as by
use Rattle.fir_fold_rules.specs.working.Replaces.{Replaces}
use Rattle.fir_fold_rules.specs.working.Simplifies.{IsFoldedNode, IsLiteralNode}
use Rattle.fir_fold.specs.working.Standing.{node_read}
use Rattle.fir_fold.specs.working.Walking.{IsBy, IsStood, StandsForLeaf, StandsForNode, StandsForVertex, Walking, leaf, literal, of_driver, read_by}
use Rattle.fir_fold.proofs.Entries.{get_more}

-- ---- nodes with more behind them
abbrev pub IsThere : List Node → Read → Type 0
IsThere nodes (read.Leaf k) = Unit {0}
IsThere nodes (read.Node j) = j < length nodes

pub type_more : (leaves : List Leaf) (nodes more : List Node) (r : Read) → IsThere nodes r → read_type leaves (nodes ++ more) r ≡ read_type leaves nodes r
type_more leaves nodes more (read.Leaf k) h = refl
type_more leaves nodes more (read.Node j) h = ap (λ (n : Option Node). unwrap_or (option_map node_type n) no_type) (get_left nodes more j h)

pub can_there : (leaves : List Leaf) (nodes : List Node) (r : Read) → CanRead leaves nodes r → IsThere nodes r
can_there leaves nodes (read.Leaf k) h = tt
can_there leaves nodes (read.Node j) h = h

pub can_more : (leaves : List Leaf) (nodes more : List Node) (r : Read) → CanRead leaves nodes r → CanRead leaves (nodes ++ more) r
can_more leaves nodes more (read.Leaf k) h = h
can_more leaves nodes more (read.Node j) h = omega (arith, h, length-append nodes more)

pub literal_back : (nodes more : List Node) (r : Read) → IsThere nodes r → IsLiteralNode (nodes ++ more) r → IsLiteralNode nodes r
literal_back nodes more (read.Leaf k) h l = l
literal_back nodes more (read.Node j) h l = (l.0, sym (get_left nodes more j h) ∙ l.1)

pub folded_more : (nodes more : List Node) (m : Node) → ((r : Read) → In (support_of m) r → IsThere nodes r) → IsFoldedNode nodes m → IsFoldedNode (nodes ++ more) m
folded_more nodes more (node.Literal v) there h = tt
folded_more nodes more (node.Operation o) there h = λ all. h (λ r m. literal_back nodes more r (there r m) (all r m))
folded_more nodes more (node.Mux x) there h = λ c at l. h c at (literal_back nodes more c (there c (get_in x.reads 0 c at)) l)

-- ---- what leaves and nodes read
pub reads_node : (net : FlatNet) (k : ℕ) (m : Node) (w : Read) → slice_get net.nodes k ≡ Some m → In (support_of m) w → Reads net (read.Node k) w
reads_node net k m w at among =
    let p = number_of (support_of m) w among in
    record { place = p.0; is = ap (λ (o : Option Node). slice_get (node_reads o) p.0) at ∙ p.1 }

pub reads_leaf : (net : FlatNet) (k : ℕ) (l : Leaf) (w : Read) → slice_get net.leaves k ≡ Some l → In (role_reads l.role) w → Reads net (read.Leaf k) w
reads_leaf net k l w at among =
    let p = number_of (role_reads l.role) w among in
    record { place = p.0; is = ap (λ (o : Option Leaf). slice_get (leaf_reads o) p.0) at ∙ p.1 }

pub driver_among : (r : Role) (d : Read) → driver r ≡ Some d → In (role_reads r) d
driver_among role.Input d e = cc
driver_among role.Clock d e = cc
driver_among (role.Output r) d e = let same : r ≡ d = cc in inl same
driver_among (role.Wire r) d e = let same : r ≡ d = cc in inl same
driver_among (role.Register r) d e = cc
driver_among (role.Reading r) d e = cc
driver_among (role.Pipe p) d e = cc
driver_among (role.ClockOutput c) d e = cc
driver_among (role.ClockWire c) d e = cc

pub reads_driver : (net : FlatNet) (k : ℕ) (l : Leaf) (d : Read) → slice_get net.leaves k ≡ Some l → driver l.role ≡ Some d → Reads net (read.Leaf k) d
reads_driver net k l d at drives = reads_leaf net k l d at (driver_among l.role d drives)

pub node_same : (f g : Read → Read) (m : Node) → ((w : Read) → In (support_of m) w → f w ≡ g w) → node_read f m ≡ node_read g m
node_same f g (node.Literal v) same = refl
node_same f g (node.Operation o) same = ap (λ (rs : List Read). node.Operation (record o { reads = rs })) (map_same f g o.reads same)
node_same f g (node.Mux m) same = ap (λ (rs : List Read). node.Mux (record m { reads = rs })) (map_same f g m.reads same)

-- ---- from one state to another
pub record Grows (old new : Walking) : Type 0 where
  pub more : List Node
  pub nodes : new.nodes ≡ old.nodes ++ more
  pub entries : (r : Read) → In old.entries r → In new.entries r

module _ (net : FlatNet) (old new : Walking) (g : Grows old new) where
  -- a leaf or a node, what it reads, and the leaf that stands for it, are read as before
  pub record Keeps (v : Read) : Type 0 where
    pub itself : read_by new v ≡ read_by old v
    pub reads : (w : Read) → Reads net v w → (read_by new w ≡ read_by old w) × IsThere old.nodes (read_by old w)
    pub leaf : (k : ℕ) → read_by old v ≡ read.Leaf k → read_by new (read.Leaf k) ≡ read_by old (read.Leaf k)

  pub node_stays : (k : ℕ) (m : Node) → slice_get old.nodes k ≡ Some m → slice_get new.nodes k ≡ Some m
  node_stays k m e = ap (λ (ns : List Node). slice_get ns k) g.nodes ∙ get_more old.nodes g.more k m e

  pub type_stays : (r : Read) → IsThere old.nodes r → read_type net.leaves new.nodes r ≡ read_type net.leaves old.nodes r
  type_stays r h = ap (λ (ns : List Node). read_type net.leaves ns r) g.nodes ∙ type_more net.leaves old.nodes g.more r h

  pub can_stays : (r : Read) → CanRead net.leaves old.nodes r → CanRead net.leaves new.nodes r
  can_stays r h = subst (λ (ns : List Node). CanRead net.leaves ns r) (sym g.nodes) (can_more net.leaves old.nodes g.more r h)

  literal_was : (r : Read) → IsThere old.nodes r → IsLiteralNode new.nodes r → IsLiteralNode old.nodes r
  literal_was r h l = literal_back old.nodes g.more r h (subst (λ (ns : List Node). IsLiteralNode ns r) g.nodes l)

  leaf_carried : (k : ℕ) (l : Leaf) → slice_get net.leaves k ≡ Some l → Keeps (read.Leaf k) → StandsForLeaf net.leaves k l old → StandsForLeaf net.leaves k l new
  leaf_carried k l at keeps (literal d v j i drives reads is stands place) =
      let r = keeps.reads d (reads_driver net k l d at drives) in
      literal d v j i drives (r.0 ∙ reads) (node_stays j _ is) (keeps.itself ∙ stands) (node_stays i _ place)
  leaf_carried k l at keeps (of_driver d drives same typed) =
      let r = keeps.reads d (reads_driver net k l d at drives) in
      of_driver d drives (keeps.itself ∙ same ∙ sym r.0) (ap (read_type net.leaves new.nodes) r.0 ∙ type_stays (read_by old d) r.1 ∙ typed)
  leaf_carried k l at keeps (leaf none itself) =
      leaf
      (λ d drives lit.
      let r = keeps.reads d (reads_driver net k l d at drives) in
      none d drives (literal_was (read_by old d) r.1 (subst (IsLiteralNode new.nodes) r.0 lit)))
      (keeps.itself ∙ itself)

  is_by : (b : Replacement) (s t : Read) → t ≡ s → IsBy old.nodes b s → IsBy new.nodes b t
  is_by (by.Read r) s t e h = e ∙ h
  is_by (by.Node m) s t e h = (h.0, e ∙ h.1, node_stays h.0 m h.2)

  node_carried : (k : ℕ) (m : Node) → slice_get net.nodes k ≡ Some m → Keeps (read.Node k) → StandsForNode net.leaves k m old → StandsForNode net.leaves k m new
  node_carried k m at keeps s = record {
    before = s.before;
    behind = s.behind ++ g.more;
    parts = g.nodes ∙ ap (λ (ns : List Node). ns ++ g.more) s.parts ∙ append_assoc s.before s.behind g.more;
    replacement = s.replacement;
    replaces =
        subst (λ (x : Node). Replaces net.leaves s.before x s.replacement)
        (node_same (read_by old) (read_by new) m (λ w i. sym (keeps.reads w (reads_node net k m w at i)).0)) s.replaces;
    is = is_by s.replacement (read_by old (read.Node k)) (read_by new (read.Node k)) keeps.itself s.is;
  }

  vertex_carried : (v : Read) → Keeps v → StandsForVertex net v old → StandsForVertex net v new
  vertex_carried (read.Leaf k) keeps h = (h.0, h.1, leaf_carried k h.0 h.1 keeps h.2)
  vertex_carried (read.Node k) keeps h = (h.0, h.1, node_carried k h.0 h.1 keeps h.2)

  pub stood_carried : (v : Read) → Keeps v → IsStood net old v → IsStood net new v
  stood_carried v keeps h = record {
    can = λ c. subst (CanRead net.leaves new.nodes) (sym keeps.itself) (can_stays (read_by old v) (h.can c));
    has_type = λ c. ap (read_type net.leaves new.nodes) keeps.itself ∙ type_stays (read_by old v) (can_there net.leaves old.nodes (read_by old v) (h.can c)) ∙ h.has_type c;
    placed = subst (In new.entries) (sym keeps.itself) (g.entries (read_by old v) h.placed);
    settled = λ k e. let was : read_by old v ≡ read.Leaf k = sym keeps.itself ∙ e in keeps.leaf k was ∙ h.settled k was;
    stands = vertex_carried v keeps h.stands;
  }
