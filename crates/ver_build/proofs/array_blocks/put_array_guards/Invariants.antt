use Rattle.std.proofs.Common.{◌≡◌, ◌++◌, take}
use Rattle.ver_build.specs.working.ArrayBlocks.{guarded_write}
use Rattle.ver_build.specs.working.Places.{along_writes, guard_at}
use Rattle.ver_build.proofs.array_blocks.put_array_guards.Given as goal

abbrev pub invariant-loop-j : goal.invariant-loop-j
invariant-loop-j l =
    l.inners.items ≡ l.initial.inners.items
    ++ along_writes (λ j w. guarded_write l.net l.places l.array.words w (guard_at l.places.guards l.number j)) 0 (take l.j l.writes)
