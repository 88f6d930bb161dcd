use Rattle.std.proofs.Common.{◌≡◌, ◌++◌, map, take}
use Rattle.fir_flatten.specs.working.MovedNets.{node_moved}
use Rattle.fir_flatten.proofs.design_net.put_nodes.Given as goal

abbrev pub invariant-loop-node : goal.invariant-loop-node
invariant-loop-node l = l.all.items ≡ l.fn.all.items ++ map (node_moved l.at) (take l.node-index l.nodes)
