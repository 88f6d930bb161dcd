use Rattle.std.proofs.Common.{◌≡◌, length}
use Rattle.ver_build.proofs.write_guards.no_guards.Given as goal

abbrev pub invariant-loop-array : goal.invariant-loop-array
invariant-loop-array l = length l.guards.items ≡ l.array-index
