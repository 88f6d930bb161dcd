use Rattle.std.proofs.Common.{refl}
use Rattle.ver_ast.specs.declared.tree.Item.TheVariants as item
use Rattle.ver_ast.specs.Nets.{plain_block}
use Rattle.ver_valid.specs.working.Walks.{written_names}
use Rattle.ver_valid.proofs.Steps.{block_step}
use Rattle.ver_valid.proofs.walk.Walk.take_plain.Goals as goal

pub returns : goal.returns
returns c =
    λ v r. block_step c.args.self.now c.drive.new.self v (item.Always c.args.block.now) (plain_block c.args.block.now) c.args.block.now.target c.drive.result r
    refl refl refl refl refl (c.in_ok-plain_block.ensures v r.tells) (c.drive.ensures.fresh (written_names v) r.written) c.drive.ensures.driven
