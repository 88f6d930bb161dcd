use Rattle.std.proofs.Common.{◌≡◌, ◌++◌, map, flat_map, drop}
use Rattle.ver_ast.specs.Nets.{item_block, block_reset, reset_targets}
use Rattle.ver_sim.proofs.declarations.reset_names.Given as goal

abbrev pub invariant-loop-item : goal.invariant-loop-item
invariant-loop-item l = map (λ n. n.now) l.names.items ++ map (λ b. b.target) (flat_map block_reset (flat_map item_block (drop l.item-index l.item-items))) ≡ reset_targets l.v
