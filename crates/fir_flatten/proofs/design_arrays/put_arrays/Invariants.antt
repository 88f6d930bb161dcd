use Rattle.std.proofs.Common.{◌≡◌, ◌++◌}
use Rattle.fir_flatten.proofs.PutArrays.{arrays_before}
use Rattle.fir_flatten.proofs.design_arrays.put_arrays.Given as goal

abbrev pub invariant-loop-number : goal.invariant-loop-number
invariant-loop-number l = l.arrays.items ≡ l.fn.arrays.items ++ arrays_before l.prefix l.at l.module l.number
