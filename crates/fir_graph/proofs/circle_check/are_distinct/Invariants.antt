use Rattle.fir_graph.proofs.Seeing.{Seen}
use Rattle.fir_graph.proofs.circle_check.are_distinct.Given as goal

abbrev pub invariant-loop-vertex : goal.invariant-loop-vertex
invariant-loop-vertex l = Seen l.circle l.vertex-index l.met.items
