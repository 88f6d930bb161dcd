-- Choices that agree on the leaves before a place of an order give one value to all that stands there.
use Rattle.std.proofs.Common.{◌≡◌, ℕ, zero, suc, ◌<◌, ◌≤◌, List, [], take, false, sym, ap, ◌∙◌, arith}
use Rattle.std.specs.Prelude.{slice_get, Option, Some}
use Rattle.fir_base.proofs.Elements.{there}
use Rattle.fir_net.specs.declared.reads.Read.{Read}
use Rattle.fir_net.specs.declared.reads.Read.TheVariants as read
use Rattle.fir_net.specs.declared.leaf.Leaf.{Leaf}
use Rattle.fir_net.specs.declared.node.Node.{Node}
use Rattle.fir_net.specs.declared.net.FlatNet.{FlatNet}
use Rattle.fir_net.specs.working.Values.{number_of, leaf_type, values}
use Rattle.fir_net.specs.working.Dependence.{support_of, node_reads, Reads}
use Rattle.fir_net.specs.working.IsNet.{CanRead, IsNode, IsNet}
use Rattle.fir_net.specs.working.IsOrder.{IsOrder}
use Rattle.fir_net.specs.working.Settled.{value_at, is_clock}
use Rattle.fir_net.proofs.NodeReads.{same_node, node_at, reads_can, can_more}
use Rattle.fir_net.proofs.KnownValues.{node_is}
use Rattle.fir_net.proofs.AlongOrder.{SameBefore}

-- the leaves that have numbers: those that are no clocks
pub record IsPlain (net : FlatNet) (k : ℕ) : Type 0 where
  pub leaf : Leaf
  pub at : slice_get net.leaves k ≡ Some leaf
  pub plain : is_clock leaf.role ≡ false

module _ (net : FlatNet) (whole : IsNet net) (order : List Read) (is_order : IsOrder net order) (e f : ℕ → ℕ) where
  pub values_agree : (n : ℕ) → SameBefore order (IsPlain net) n e f → (m i : ℕ) (v : Read) → i < m → m ≤ n → slice_get order i ≡ Some v → CanRead net.leaves net.nodes v → value_at net e v ≡ value_at net f v
  values_agree n agree zero i v l le at can = absurd (omega (arith, l))
  values_agree n agree (suc m) i (read.Leaf k) l le at can =
      ap (number_of (leaf_type net.leaves k)) (agree.each i k (omega (arith, l, le)) at (record { leaf = can.0; at = can.1; plain = can.2 }))
  values_agree n agree (suc m) i (read.Node k) l le at can =
      let found = there net.nodes k can in
      let node = found.0 in
      let is : IsNode net.leaves (take k net.nodes) node = node_at net.leaves net.nodes [] whole.nodes k node found.1 in
      let same_read : (j : ℕ) (r : Read) → slice_get (support_of node) j ≡ Some r → value_at net e r ≡ value_at net f r = λ j r reads.
      let hangs : Reads net (read.Node k) r = record { place = j; is = ap (λ (o : Option Node). slice_get (node_reads o) j) found.1 ∙ reads } in
      let before = is_order.after i (read.Node k) r at hangs in
      values_agree n agree m before.0 r (omega (arith, l, before.1)) (omega (arith, le)) before.2 (can_more net.leaves net.nodes k r (reads_can net.leaves (take k net.nodes) node is j r reads))
      in
      node_is net e k node whole found.1 ∙ same_node net.leaves e f (values net e) (values net f) node same_read ∙ sym (node_is net f k node whole found.1)
