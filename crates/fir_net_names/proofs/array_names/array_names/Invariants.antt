use Rattle.std.proofs.Common.{drop}
use Rattle.fir_net_names.proofs.NamedArrays.{NamedArrays}
use Rattle.fir_net_names.proofs.array_names.array_names.Given as goal

abbrev pub invariant-loop-array : goal.invariant-loop-array
invariant-loop-array l = NamedArrays l.net l.fn.taken.names (drop l.array-index l.net.array_order) l.names.items l.taken.names
