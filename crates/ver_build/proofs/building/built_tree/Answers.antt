use Rattle.std.proofs.Common.{◌∙◌}
use Rattle.ver_build.proofs.Tree.{tree_built}
use Rattle.ver_build.proofs.building.built_tree.Goals as goal

pub returns : goal.returns
returns c =
    tree_built c.args.net.now c.args.table.now c.args.places.now c.args.order.now
    (record { name = c.in_ok-name.name; ports = c.from_vec.result; items = c.from_vec-2.result; places = c.from_vec-3.result })
    (c.in_ok-name.ensures ∙ c.module_name.ensures) (c.from_vec.ensures ∙ c.in_ok-ports.ensures) (c.from_vec-2.ensures ∙ c.in_ok-items.ensures)
    (c.from_vec-3.ensures ∙ c.new.ensures.items)
