use Rattle.fir_leaf_pairs.proofs.Giving.{first_none}
use Rattle.fir_ground.proofs.leafwise.first.Goals as goal

pub returns-in_ok-add-in-None : goal.returns-in_ok-add-in-None
returns-in_ok-add-in-None c =
    λ b. first_none c.args.nodes.now.items c.add.new.nodes.items c.args.ids.now c.in_ok-add-in-None.field-0 c.in-None.ensures.item.3 c.in_ok-add-in-None.ensures.place
    c.in_ok-add-in-None.ensures.added
