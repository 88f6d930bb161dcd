use Rattle.fir_source_faults.proofs.ModuleReads.{modules_read}
use Rattle.fir_source_faults.proofs.read_laws.terms_read_as_expressions.Goals as goal

pub returns : goal.returns
returns c = modules_read
