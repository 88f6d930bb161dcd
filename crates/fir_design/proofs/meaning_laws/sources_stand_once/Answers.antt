use Rattle.fir_design.proofs.StateStandsOnce.{stand_once}
use Rattle.fir_design.proofs.meaning_laws.sources_stand_once.Goals as goal

pub returns : goal.returns
returns c = stand_once
