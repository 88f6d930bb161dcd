use Rattle.std.proofs.Common.{refl, sym, subst}
use Rattle.std.specs.List.{AllByRecursion}
use Rattle.ver_ast.specs.declared.tree.Item.TheVariants as item
use Rattle.ver_ast.specs.Nets.{writing_block}
use Rattle.ver_sim.specs.working.Blocks.{IsSomeWrite, IsWriteTaskOf}
use Rattle.ver_sim.specs.working.Pairs.{EachPair}
use Rattle.ver_sim.proofs.BlockForms.{block_known, some_writes}
use Rattle.ver_sim.proofs.LackingItems.{writes_checked}
use Rattle.ver_sim.proofs.lacking.put_writes.Goals as goal

pub returns : goal.returns
returns c v k m =
    let b = c.args.block.now in
    let sound = block_known v (item.Writing b) (writing_block b) m refl k.valid in
    let writes = c.in_ok-writes.writes in
    writes_checked v b c.args.place c.clock-clock.result writes c.args.out.now.items c.push.new.self.items (c.clock-clock.ensures v k sound.0)
    (subst (EachPair (IsWriteTaskOf v) writes.items) c.as_slice.ensures
    (c.in_ok-writes.ensures v k (subst (AllByRecursion (IsSomeWrite v)) (sym c.as_slice.ensures) (some_writes v b.writes sound.1))))
    c.in_ok-push.ensures.items
