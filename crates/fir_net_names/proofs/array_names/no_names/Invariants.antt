use Rattle.std.proofs.Common.{◌≡◌, map, take, None}
use Rattle.fir_net_names.proofs.array_names.no_names.Given as goal

abbrev pub invariant-loop-array : goal.invariant-loop-array
invariant-loop-array l = l.names.items ≡ map (λ a. None) (take l.array-index l.arrays)
