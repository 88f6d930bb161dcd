use Rattle.fir_leaf.proofs.OncePaths.{names_make_sound}
use Rattle.fir_leaf.proofs.design_laws.own_names_make_paths_distinct.Goals as goal

pub returns : goal.returns
returns c = names_make_sound
