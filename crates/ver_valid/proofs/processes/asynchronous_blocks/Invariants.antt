use Rattle.std.proofs.Common.{◌≡◌, ◌++◌, map, flat_map, drop}
use Rattle.ver_ast.specs.Nets.{item_block, block_reset, resets}
use Rattle.ver_valid.proofs.processes.asynchronous_blocks.Given as goal

abbrev pub invariant-loop-item : goal.invariant-loop-item
invariant-loop-item l = map (λ b. b.now) l.found.items ++ flat_map block_reset (flat_map item_block (drop l.item-index l.item-items)) ≡ resets l.v
