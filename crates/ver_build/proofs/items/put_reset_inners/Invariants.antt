use Rattle.std.proofs.Common.{◌≡◌, ◌++◌, take}
use Rattle.ver_build.specs.working.Blocks.{leaf_net}
use Rattle.ver_build.specs.working.Built.{at_numbers}
use Rattle.ver_build.proofs.items.put_reset_inners.Given as goal

abbrev pub invariant-loop-word : goal.invariant-loop-word
invariant-loop-word l =
    l.inners.items ≡ l.initial.inners.items ++ at_numbers (leaf_net l.places) l.places.resets l.net.leaves (take l.word-index l.words)
