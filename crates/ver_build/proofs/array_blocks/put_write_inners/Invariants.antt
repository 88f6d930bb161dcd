use Rattle.std.proofs.Common.{◌≡◌, ◌++◌, flat_map, take}
use Rattle.std.specs.Prelude.{slice_get}
use Rattle.ver_build.specs.working.ArrayBlocks.{array_write_inners}
use Rattle.ver_build.proofs.array_blocks.put_write_inners.Given as goal

abbrev pub invariant-loop-number : goal.invariant-loop-number
invariant-loop-number l =
    l.inners.items ≡ l.initial.inners.items ++ flat_map (λ k. array_write_inners l.net l.places k (slice_get l.net.arrays k)) (take l.number-index l.order)
