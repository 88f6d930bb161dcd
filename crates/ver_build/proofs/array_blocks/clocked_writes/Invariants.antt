use Rattle.std.proofs.Common.{◌≡◌, take}
use Rattle.ver_build.specs.working.ArrayBlocks.{written_on}
use Rattle.ver_build.specs.working.Places.{along_writes, clock_in, guard_at}
use Rattle.ver_build.proofs.array_blocks.clocked_writes.Given as goal

abbrev pub invariant-loop-j : goal.invariant-loop-j
invariant-loop-j l =
    l.writes.items
    ≡ along_writes (λ j w. written_on l.net l.places l.name l.array.width (clock_in l.places.leaves w.clock) w (guard_at l.places.guards l.number j)) 0 (take l.j l.all)
