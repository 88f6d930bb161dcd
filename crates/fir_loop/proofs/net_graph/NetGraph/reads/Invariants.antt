use Rattle.std.proofs.Common.{◌≡◌, ◌++◌, drop, map}
use Rattle.fir_loop.specs.working.Numbered.{read_of}
use Rattle.fir_loop.proofs.net_graph.NetGraph.reads.Given as goal

abbrev pub invariant-loop-vertex : goal.invariant-loop-vertex
invariant-loop-vertex l = l.reads.items ++ map (read_of l.self.net.now) (drop l.vertex-index l.vertices) ≡ map (read_of l.self.net.now) l.vertices
