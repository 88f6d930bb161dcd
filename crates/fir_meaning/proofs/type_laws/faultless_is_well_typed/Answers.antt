use Rattle.fir_meaning.proofs.WellTypedCircuits.{well_typed}
use Rattle.fir_meaning.proofs.type_laws.faultless_is_well_typed.Goals as goal

pub returns : goal.returns
returns c = well_typed
