use Rattle.fir_source_laws.proofs.ModuleStores.{undriven_keeps}
use Rattle.fir_source_laws.proofs.statement_laws.undriven_leaves_keep_what_they_show.Goals as goal

pub returns : goal.returns
returns c = undriven_keeps
