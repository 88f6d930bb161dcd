use Rattle.ver_read.proofs.NeverBoth.{refused_is_not_valid}
use Rattle.ver_read.proofs.laws.refused_is_not_valid.Goals as goal

pub returns : goal.returns
returns c =
    refused_is_not_valid c.spells_one_tree.ensures c.faultless_is_valid.ensures c.valid_is_shallow.ensures c.loops_have_no_order.ensures
    c.no_tree_beside_a_fault.ensures
