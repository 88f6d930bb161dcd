use Rattle.ver_order.proofs.Shown.{shown_rest, shown_settled}
use Rattle.ver_order.proofs.laws.shown_is_rest.Goals as goal

pub returns-clause-rest : goal.returns-clause-rest
returns-clause-rest c v valid state tick env shown = shown_rest v valid state tick env shown

pub returns-clause-settled : goal.returns-clause-settled
returns-clause-settled c v valid state tick env shown = shown_settled v valid state tick env shown
