use Rattle.fir_leaf.proofs.LiveStores.{nothing_where_undriven}
use Rattle.fir_leaf.proofs.choice_laws.nothing_where_undriven.Goals as goal

pub returns : goal.returns
returns g c = nothing_where_undriven _
