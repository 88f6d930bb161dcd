use Rattle.ver_valid.proofs.BlockForms.{plain_form}
use Rattle.ver_valid.proofs.block.plain_block.Goals as goal

pub returns : goal.returns
returns c =
    λ v t. plain_form v c.args.block.now c.in_ok-width.width c.has_width.result (c.in_ok-clock.ensures v t) (c.in_ok-width.ensures v t)
    (c.has_width.ensures v t)
