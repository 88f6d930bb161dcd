use Rattle.fir_source_laws.proofs.ModuleStores.{last_ground_connect}
use Rattle.fir_source_laws.proofs.statement_laws.last_connect_of_a_body_is_stored.Goals as goal

pub returns : goal.returns
returns c = last_ground_connect
