use Rattle.std.proofs.Common.{◌≡◌, drop}
use Rattle.ver_build.specs.working.ArrayBlocks.{first_clock}
use Rattle.ver_build.proofs.array_blocks.first_clock.Given as goal

abbrev pub invariant-loop-write : goal.invariant-loop-write
invariant-loop-write l = first_clock l.places l.writes ≡ first_clock l.places (drop l.write-index l.writes)
