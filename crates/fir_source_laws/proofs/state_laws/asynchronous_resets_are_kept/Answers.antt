use Rattle.fir_source_laws.proofs.ShownRegisters.{keep_their_init}
use Rattle.fir_source_laws.proofs.state_laws.asynchronous_resets_are_kept.Goals as goal

pub returns : goal.returns
returns c = keep_their_init
