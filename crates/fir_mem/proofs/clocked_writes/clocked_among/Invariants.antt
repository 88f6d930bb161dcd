use Rattle.std.proofs.Common.{take}
use Rattle.fir_mem.specs.working.ClockedWrites.{AreClocked}
use Rattle.fir_mem.proofs.clocked_writes.clocked_among.Given as goal

abbrev pub invariant-loop-write : goal.invariant-loop-write
invariant-loop-write l = AreClocked l.net (take l.write-index l.writes) l.clocked.items
