use Rattle.std.proofs.Common.{◌≡◌, ◌++◌, List}
use Rattle.fir_ast.specs.declared.place.Place.{Place}
use Rattle.fir_leaf.specs.working.ClockFaults.{index_places}
use Rattle.fir_leaf.specs.working.Nodes.{entries, picks_at}
use Rattle.fir_driven.specs.working.Indices.{nodes_up_to}
use Rattle.fir_flatten.specs.working.FirstIndices.{IsFirstOf}
use Rattle.fir_flatten.proofs.index_places.first_index.Given as goal

abbrev pub invariant-loop-pick : goal.invariant-loop-pick
invariant-loop-pick l =
    (later : List Place) × (index_places (picks_at (entries l.nodes) l.fn.picks) ≡ index_places (picks_at (entries l.nodes) l.next) ++ later)
    × IsFirstOf later l.first

abbrev pub decreases-loop-pick : goal.decreases-loop-pick
decreases-loop-pick l = nodes_up_to l.next
