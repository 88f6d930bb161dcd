use Rattle.ver_check.proofs.ShallowTrees.{valid_is_shallow as shallow_tree}
use Rattle.ver_check.proofs.laws.valid_is_shallow.Goals as goal

pub returns : goal.returns
returns c v valid = shallow_tree v valid
