use Rattle.std.proofs.Common.{◌≡◌, ◌++◌, map, flat_map, take}
use Rattle.ver_build.specs.Arranged.{block_item}
use Rattle.ver_build.specs.working.Built.{word_block}
use Rattle.ver_build.proofs.register_blocks.put_blocks.Given as goal

abbrev pub invariant-loop-word : goal.invariant-loop-word
invariant-loop-word l =
    l.items.items ≡ l.initial.items.items ++ flat_map (λ k. map block_item (word_block l.net l.table l.places k)) (take l.word-index l.words)
