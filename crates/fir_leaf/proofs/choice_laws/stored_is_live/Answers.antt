use Rattle.fir_leaf.proofs.LiveStores.{stored_is_live}
use Rattle.fir_leaf.proofs.choice_laws.stored_is_live.Goals as goal

pub returns : goal.returns
returns g c = stored_is_live _
