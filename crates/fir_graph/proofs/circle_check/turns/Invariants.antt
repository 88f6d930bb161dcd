use Rattle.std.proofs.Common.{drop}
use Rattle.fir_graph.specs.working.IsCircle.{Chain}
use Rattle.fir_graph.proofs.circle_check.turns.Given as goal

abbrev pub invariant-loop-vertex : goal.invariant-loop-vertex
invariant-loop-vertex g l = Chain (g.G.Graph.targets l.graph) l.last (drop l.vertex-index l.rest) l.first → Chain (g.G.Graph.targets l.graph) l.first l.rest l.first
