use Rattle.std.proofs.Common.{length, ◌-◌}
use Rattle.fir_graph.proofs.breadth.Breadth.closes.Given as goal

abbrev pub decreases-loop-target : goal.decreases-loop-target
decreases-loop-target g l = length (g.G.Graph.targets l.graph l.vertex) - l.place
