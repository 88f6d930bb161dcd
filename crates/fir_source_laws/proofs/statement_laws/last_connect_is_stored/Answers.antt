use Rattle.fir_source_laws.proofs.LastConnects.{last_connect}
use Rattle.fir_source_laws.proofs.statement_laws.last_connect_is_stored.Goals as goal

pub returns : goal.returns
returns c = last_connect
