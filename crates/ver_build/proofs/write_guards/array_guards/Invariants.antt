use Rattle.std.proofs.Common.{take}
use Rattle.ver_build.specs.working.Walks.{AreArrayGuards}
use Rattle.ver_build.proofs.write_guards.array_guards.Given as goal

abbrev pub invariant-loop-write : goal.invariant-loop-write
invariant-loop-write l = AreArrayGuards l.net l.table l.leaves l.array.words (take l.write-index l.writes) l.from l.guards.items l.next
