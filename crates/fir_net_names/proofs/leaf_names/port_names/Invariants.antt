use Rattle.std.proofs.Common.{drop}
use Rattle.fir_net_names.proofs.NamedLeaves.{NamedPorts}
use Rattle.fir_net_names.proofs.leaf_names.port_names.Given as goal

abbrev pub invariant-loop-leaf : goal.invariant-loop-leaf
invariant-loop-leaf l = NamedPorts l.net l.leaf-index (drop l.leaf-index l.net.leaves) l.names.items l.taken.names
