use Rattle.std.proofs.Common.{◌≡◌, ◌++◌, map, flat_map, take}
use Rattle.std.specs.Prelude.{slice_get}
use Rattle.fir_net_names.specs.working.LeafNamed.{name_at}
use Rattle.ver_build.specs.Arranged.{block_item}
use Rattle.ver_build.specs.working.ArrayBlocks.{array_block}
use Rattle.ver_build.proofs.array_blocks.put_array_blocks.Given as goal

abbrev pub invariant-loop-number : goal.invariant-loop-number
invariant-loop-number l =
    l.items.items
    ≡ l.initial.items.items
    ++ flat_map (λ k. map block_item (array_block l.net l.table l.places k (slice_get l.net.arrays k) (name_at l.table.arrays k))) (take l.number-index l.order)
