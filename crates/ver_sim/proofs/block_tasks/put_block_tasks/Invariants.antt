use Rattle.std.proofs.Common.{take}
use Rattle.std.specs.Prelude.{flat_map}
use Rattle.ver_ast.specs.Nets.{item_block}
use Rattle.ver_sim.specs.working.Blocks.{IsBlockTaskOf}
use Rattle.ver_sim.specs.working.Pairs.{Appends}
use Rattle.ver_sim.proofs.block_tasks.put_block_tasks.Given as goal

abbrev pub invariant-loop-item : goal.invariant-loop-item
invariant-loop-item l = Appends (IsBlockTaskOf l.v) l.initial.out.items l.out.items (flat_map item_block (take l.item-index l.item-items))
