use Rattle.std.proofs.Common.{take}
use Rattle.fir_mem.specs.working.ClockedWrites.{AreClockedArrays}
use Rattle.fir_mem.proofs.clocked_writes.clocked_writes.Given as goal

abbrev pub invariant-loop-array : goal.invariant-loop-array
invariant-loop-array l = AreClockedArrays l.net (take l.array-index l.net.arrays) l.all.items
