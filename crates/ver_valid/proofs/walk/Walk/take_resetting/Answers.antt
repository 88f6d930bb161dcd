use Rattle.std.proofs.Common.{refl}
use Rattle.ver_ast.specs.declared.tree.Item.TheVariants as item
use Rattle.ver_ast.specs.Nets.{resetting_block}
use Rattle.ver_valid.specs.working.Walks.{written_names}
use Rattle.ver_valid.proofs.Steps.{block_step}
use Rattle.ver_valid.proofs.walk.Walk.take_resetting.Goals as goal

pub returns : goal.returns
returns c =
    λ v r. block_step c.args.self.now c.drive.new.self v (item.Resetting c.args.block.now) (resetting_block c.args.block.now) c.args.block.now.target c.drive.result r
    refl refl refl refl refl (c.in_ok-resetting_block.ensures v r.tells) (c.drive.ensures.fresh (written_names v) r.written) c.drive.ensures.driven
