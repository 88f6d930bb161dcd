use Rattle.ver_build.proofs.GuardWalk.{GuardLoop}
use Rattle.ver_build.proofs.write_guards.write_guards.Given as goal

abbrev pub invariant-loop-array : goal.invariant-loop-array
invariant-loop-array l = GuardLoop l.net l.table l.leaves l.first l.guards.items l.array-index l.from
