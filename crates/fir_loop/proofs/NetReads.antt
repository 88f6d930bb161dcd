-- What the leaves and nodes of a whole net hang on.
use Rattle.std.proofs.Common.{◌≡◌, ℕ, Bool, zero, suc, ◌+◌, ◌<◌, ◌≤◌, List, [], ◌∷◌, ◌++◌, Option, Some, None, length, sym, ap, ◌∙◌, subst, inl, inr, ◌⊎◌, arith, length-append}
use Rattle.std.specs.Prelude.{slice_get}
use Rattle.std.proofs.lemmas.Bool.{cases_lt}
use Rattle.std.proofs.lemmas.Option.{none-some, same_Some, slice_get_within, slice_get_past}
use Rattle.fir_base.proofs.Elements.{all_there, there}
use Rattle.fir_net.specs.declared.reads.Read.{Read}
use Rattle.fir_net.specs.declared.reads.Read.TheVariants as read
use Rattle.fir_net.specs.declared.leaf.ResetKind.{ResetKind}
use Rattle.fir_net.specs.declared.leaf.ResetKind.TheVariants.{Synchronous, Asynchronous}
use Rattle.fir_net.specs.declared.leaf.Reset.{Reset}
use Rattle.fir_net.specs.declared.leaf.Role.{Role}
use Rattle.fir_net.specs.declared.leaf.Role.TheVariants as role
use Rattle.fir_net.specs.declared.leaf.Leaf.{Leaf}
use Rattle.fir_net.specs.declared.node.Node.{Node}
use Rattle.fir_net.specs.declared.node.Node.TheVariants as node
use Rattle.fir_net.specs.declared.net.FlatNet.{FlatNet}
use Rattle.fir_net.specs.working.Dependence.{support_of, kind_reads, reset_reads, role_reads, leaf_reads, node_reads, IsOf, Reads}
use Rattle.fir_net.specs.working.IsNet.{CanRead, IsNode, AreNodes, CanBeReset, IsRole, IsLeaf, IsNet}

-- only what is of the net hangs on anything
pub reads_from : (net : FlatNet) (v w : Read) → Reads net v w → IsOf net v
reads_from net (read.Leaf k) w r = by (cases_lt k (length net.leaves))
  where
    by : (k < length net.leaves) ⊎ (length net.leaves ≤ k) → k < length net.leaves
    by (inl l) = l
    by (inr l) = absurd (none-some w (ap (λ o. slice_get (leaf_reads o) r.place) (sym (slice_get_past net.leaves k l)) ∙ r.is))
reads_from net (read.Node k) w r = by (cases_lt k (length net.nodes))
  where
    by : (k < length net.nodes) ⊎ (length net.nodes ≤ k) → k < length net.nodes
    by (inl l) = l
    by (inr l) = absurd (none-some w (ap (λ o. slice_get (node_reads o) r.place) (sym (slice_get_past net.nodes k l)) ∙ r.is))

can_read_of : (net : FlatNet) (r : Read) → CanRead net.leaves net.nodes r → IsOf net r
can_read_of net (read.Leaf k) h = slice_get_within net.leaves k h.0 h.1
can_read_of net (read.Node k) h = h

module _ (net : FlatNet) where
  first_of : (r : Read) → IsOf net r → (place : ℕ) (w : Read) → slice_get (r ∷ []) place ≡ Some w → IsOf net w
  first_of r h zero w e = subst (IsOf net) (same_Some r w e) h
  first_of r h (suc place) w e = absurd (none-some w e)

  either_of : (a b : Read) → IsOf net a → IsOf net b → (place : ℕ) (w : Read) → slice_get (a ∷ b ∷ []) place ≡ Some w → IsOf net w
  either_of a b h i zero w e = subst (IsOf net) (same_Some a w e) h
  either_of a b h i (suc place) w e = first_of b i place w e

  kind_within : (kind : ResetKind) (condition init : Read) → IsOf net condition → IsOf net init → (place : ℕ) (w : Read) → slice_get (kind_reads kind condition init) place ≡ Some w → IsOf net w
  kind_within Synchronous condition init c i place w e = absurd (none-some w e)
  kind_within Asynchronous condition init c i place w e = either_of condition init c i place w e

  reset_within : (signed : Bool) (reset : Option Reset) → CanBeReset net.leaves net.nodes signed reset → (place : ℕ) (w : Read) → slice_get (reset_reads reset) place ≡ Some w → IsOf net w
  reset_within signed None h place w e = absurd (none-some w e)
  reset_within signed (Some r) h place w e = kind_within r.kind r.condition r.init (can_read_of net r.condition h.condition) (can_read_of net r.init h.init.can) place w e

  role_within : (signed : Bool) (width : ℕ) (role : Role) → IsRole net.leaves net.nodes signed width role → (place : ℕ) (w : Read) → slice_get (role_reads role) place ≡ Some w → IsOf net w
  role_within signed width role.Input h place w e = absurd (none-some w e)
  role_within signed width role.Clock h place w e = absurd (none-some w e)
  role_within signed width (role.Output r) h place w e = first_of r (can_read_of net r h.can) place w e
  role_within signed width (role.Wire r) h place w e = first_of r (can_read_of net r h.can) place w e
  role_within signed width (role.Register r) h place w e = reset_within signed r.reset h.1 place w e
  role_within signed width (role.Reading r) h place w e = either_of r.address r.enable (can_read_of net r.address h.address) (can_read_of net r.enable h.enable) place w e
  role_within signed width (role.Pipe p) h place w e = absurd (none-some w e)
  role_within signed width (role.ClockOutput None) h place w e = absurd (none-some w e)
  role_within signed width (role.ClockOutput (Some k)) h place w e = first_of (read.Leaf k) (slice_get_within net.leaves k h.1.0 h.1.1) place w e
  role_within signed width (role.ClockWire None) h place w e = absurd (none-some w e)
  role_within signed width (role.ClockWire (Some k)) h place w e = first_of (read.Leaf k) (slice_get_within net.leaves k h.1.0 h.1.1) place w e

-- a node over those before it
record IsNodeAt (leaves : List Leaf) (k : ℕ) (n : Node) : Type 0 where
  before : List Node
  count : length before ≡ k
  is : IsNode leaves before n

node_at : (leaves : List Leaf) (before nodes : List Node) → AreNodes leaves before nodes → (k : ℕ) (n : Node) → slice_get nodes k ≡ Some n → IsNodeAt leaves (length before + k) n
node_at leaves before [] h k n e = absurd (none-some n e)
node_at leaves before (m ∷ ms) h zero n e = record { before = before; count = omega arith; is = subst (IsNode leaves before) (same_Some m n e) h.0 }
node_at leaves before (m ∷ ms) h (suc k) n e =
    let r = node_at leaves (before ++ m ∷ []) ms h.1 k n e in
    record { before = r.before; count = omega (arith, r.count, length-append before (m ∷ [])); is = r.is }

support_reads : (leaves : List Leaf) (before : List Node) (n : Node) → IsNode leaves before n → (place : ℕ) (w : Read) → slice_get (support_of n) place ≡ Some w → CanRead leaves before w
support_reads leaves before (node.Literal v) h place w e = absurd (none-some w e)
support_reads leaves before (node.Operation o) h place w e = all_there (CanRead leaves before) o.reads h.reads place w e
support_reads leaves before (node.Mux m) h place w e = all_there (CanRead leaves before) m.reads h.reads place w e

module _ (net : FlatNet) (whole : IsNet net) where
  -- what a node reads, it can read of the nodes before it
  record ReadsBefore (k : ℕ) (w : Read) : Type 0 where
    before : List Node
    count : length before ≡ k
    can : CanRead net.leaves before w

  reads_before : (k : ℕ) (w : Read) → Reads net (read.Node k) w → ReadsBefore k w
  reads_before k w r =
      let n = there net.nodes k (reads_from net (read.Node k) w r) in
      let at = node_at net.leaves [] net.nodes whole.nodes k n.0 n.1 in
      record {
        before = at.before;
        count = omega (arith, at.count);
        can = support_reads net.leaves at.before n.0 at.is r.place w (ap (λ o. slice_get (node_reads o) r.place) (sym n.1) ∙ r.is);
      }

  -- nodes read nodes of lower numbers
  pub goes_down : (a b : ℕ) → Reads net (read.Node a) (read.Node b) → b < a
  goes_down a b r = let s = reads_before a (read.Node b) r in omega (arith, s.can, s.count)

  of_before : (k : ℕ) (w : Read) → k < length net.nodes → ReadsBefore k w → IsOf net w
  of_before k (read.Leaf j) l s = slice_get_within net.leaves j s.can.0 s.can.1
  of_before k (read.Node j) l s = omega (arith, s.can, s.count, l)

  -- what is hung on is of the net
  pub reads_within : (v w : Read) → Reads net v w → IsOf net w
  reads_within (read.Leaf k) w r =
      let l = there net.leaves k (reads_from net (read.Leaf k) w r) in
      let leaf = all_there (IsLeaf net.leaves net.nodes) net.leaves whole.leaves k l.0 l.1 in
      role_within net l.0.signed l.0.width l.0.role leaf.driven r.place w (ap (λ o. slice_get (leaf_reads o) r.place) (sym l.1) ∙ r.is)
  reads_within (read.Node k) w r = of_before k w (reads_from net (read.Node k) w r) (reads_before k w r)
