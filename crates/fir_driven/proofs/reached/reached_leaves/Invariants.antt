use Rattle.std.proofs.Common.{◌≡◌, length}
use Rattle.fir_meaning.specs.working.TermReads.{reached}
use Rattle.fir_leaf.specs.working.Nodes.{entries, picks_at}
use Rattle.fir_driven.specs.working.Indices.{leaves_behind, nodes_up_to}
use Rattle.fir_driven.proofs.reached.reached_leaves.Given as goal

abbrev pub invariant-loop-pick : goal.invariant-loop-pick
invariant-loop-pick l =
    reached l.first (picks_at (entries l.nodes) l.fn.picks) ≡ leaves_behind l.indices.items (reached l.first (picks_at (entries l.nodes) l.next))

abbrev pub decreases-loop-pick : goal.decreases-loop-pick
decreases-loop-pick l = nodes_up_to l.next

abbrev pub invariant-loop-pick-2 : goal.invariant-loop-pick-2
invariant-loop-pick-2 l = reached l.first (picks_at (entries l.nodes) l.fn.picks) ≡ leaves_behind l.indices.items l.leaves.items

abbrev pub decreases-loop-pick-2 : goal.decreases-loop-pick-2
decreases-loop-pick-2 l = length l.indices.items
