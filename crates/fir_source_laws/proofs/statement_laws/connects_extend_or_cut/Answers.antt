use Rattle.fir_source_laws.proofs.FitValues.{connects_fit}
use Rattle.fir_source_laws.proofs.statement_laws.connects_extend_or_cut.Goals as goal

pub returns : goal.returns
returns c = connects_fit
