use Rattle.std.proofs.Common.{ℕ, List, ◌++◌}
use Rattle.fir_leaf.specs.working.Nodes.{entries, picks_at}
use Rattle.fir_meaning.specs.working.TermValues.{Holds}
use Rattle.fir_driven.specs.working.Indices.{nodes_up_to}
use Rattle.fir_net.specs.declared.node.Node.{Node}
use Rattle.fir_merge.specs.declared.index.Index.{Index}
use Rattle.fir_merge.specs.working.Entries.{BoundsBelow, EntriesStand, IndicesBelow, IndicesStand}
use Rattle.fir_merge.proofs.index.indices_at.Given as goal

abbrev pub invariant-loop-step : goal.invariant-loop-step
invariant-loop-step l = record {
  below : (n : ℕ) → BoundsBelow n l.bounds → IndicesBelow n l.indices.items;
  stand : (holds : Holds) (net : List Node) → EntriesStand holds net l.bounds (entries l.nodes) → (xs : List Index)
      → IndicesStand holds net xs (picks_at (entries l.nodes) l.next) → IndicesStand holds net (l.indices.items ++ xs) (picks_at (entries l.nodes) l.fn.picks);
}

abbrev pub decreases-loop-step : goal.decreases-loop-step
decreases-loop-step l = nodes_up_to l.next
