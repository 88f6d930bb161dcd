use Rattle.std.proofs.Common.{ℕ, ◌<◌}
use Rattle.fir_graph.specs.working.Searched.{IsIdle, IsMet}
use Rattle.fir_graph.proofs.ordering.search.Given as goal

abbrev pub invariant-loop-vertex : goal.invariant-loop-vertex
invariant-loop-vertex g l = record {
  idle : IsIdle (g.G.Graph.size l.graph) (g.G.Graph.targets l.graph) l.search;
  met : (v : ℕ) → v < l.vertex → IsMet l.search.marks v;
}
