use Rattle.fir_leaf_types.proofs.ModulesTyped.{modules_typed}
use Rattle.fir_leaf_types.proofs.laws.leafed_modules_are_typed.Goals as goal

pub returns : goal.returns
returns c = modules_typed c.widths_grow.ensures
