-- The next leaf or node of the order can be passed, and then one more is done.
use Rattle.std.proofs.Common.{◌≡◌, ℕ, ◌+◌, List, arith}
use Rattle.std.specs.Prelude.{slice_get, Some}
use Rattle.fir_base.proofs.Elements.{there}
use Rattle.fir_net.specs.declared.net.FlatNet.{FlatNet}
use Rattle.fir_net.specs.declared.reads.Read.{Read}
use Rattle.fir_net.specs.declared.reads.Read.TheVariants as read
use Rattle.fir_net.specs.working.IsNet.{IsNet}
use Rattle.fir_net.specs.working.IsOrder.{IsOrder}
use Rattle.fir_fold.specs.working.Walking.{CanPass, IsWalked, Passes, Walking}
use Rattle.fir_fold.proofs.LeafSteps.{leaf_step}
use Rattle.fir_fold.proofs.NodeSteps.{node_ready, node_step}

module _ (net : FlatNet) (order : List Read) (ordered : IsOrder net order) (whole : IsNet net) (n : ℕ) (w : Walking) (h : IsWalked net order n w) where
  pub can_pass : (v : Read) → slice_get order n ≡ Some v → CanPass net v w
  can_pass (read.Leaf k) at = let low = ordered.only n (read.Leaf k) at in (low, omega (arith, low, h.leaves_long))
  can_pass (read.Node k) at =
      let low = ordered.only n (read.Node k) at in
      let m = there net.nodes k low in
      (omega (arith, low, h.nodes_long), (m.0, m.1, node_ready net order ordered n w h whole k m.0 at m.1))

  pub step : (v : Read) (new : Walking) → slice_get order n ≡ Some v → Passes net v w new → IsWalked net order (n + 1) new
  step (read.Leaf k) new at p = leaf_step net order ordered n w h whole k p.0 at p.1 new p.2
  step (read.Node k) new at p = node_step net order ordered n w h whole k p.0 at p.1 new p.2
