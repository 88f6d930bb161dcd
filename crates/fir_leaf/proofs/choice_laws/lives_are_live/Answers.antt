use Rattle.fir_leaf.proofs.LiveStatements.{lives_are_live}
use Rattle.fir_leaf.proofs.choice_laws.lives_are_live.Goals as goal

pub returns : goal.returns
returns c = lives_are_live
