use Rattle.std.proofs.Common.{ℕ}
use Rattle.fir_graph.specs.working.Searched.{Knows, IsMet, steps_left}
use Rattle.fir_graph.proofs.search.Search.reach.Given as goal

abbrev pub invariant-loop-top : goal.invariant-loop-top
invariant-loop-top g l = record {
  knows : Knows (g.G.Graph.size l.graph) (g.G.Graph.targets l.graph) l.self;
  reached : IsMet l.self.marks l.fn.root;
  met : (v : ℕ) → IsMet l.fn.self.marks v → IsMet l.self.marks v;
}

abbrev pub decreases-loop-top : goal.decreases-loop-top
decreases-loop-top g l = steps_left (g.G.Graph.targets l.graph) l.self.marks
