use Rattle.std.proofs.Common.{refl, ap, ◌∙◌, slice_get}
use Rattle.ver_ast.specs.declared.tree.Item.TheVariants as item
use Rattle.ver_ast.specs.declared.tree.Write.{Write}
use Rattle.std.proofs.Common.{List}
use Rattle.ver_ast.specs.Nets.{writing_block}
use Rattle.ver_valid.specs.working.Walks.{written_names}
use Rattle.ver_valid.proofs.Steps.{block_step, first_is}
use Rattle.ver_valid.proofs.walk.Walk.take_writing.Goals as goal

pub returns-in-Some : goal.returns-in-Some
returns-in-Some c =
    λ v r. block_step c.args.self.now c.drive.new.self v (item.Writing c.args.block.now) (writing_block c.args.block.now) c.in-Some.first.now.array
    c.drive.result r refl refl refl refl
    (first_is c.args.block.now.writes c.in-Some.first.now (c.in-Some.ensures.value ∙ ap (λ (ws : List Write). slice_get ws 0) c.as_slice.ensures))
    (c.in_ok-writing_block.ensures v r.tells) (c.drive.ensures.fresh (written_names v) r.written) c.drive.ensures.driven
