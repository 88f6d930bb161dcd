use Rattle.fir_source_laws.proofs.ShownRegisters.{show_init_at_once}
use Rattle.fir_source_laws.proofs.state_laws.asynchronous_resets_act_at_once.Goals as goal

pub returns : goal.returns
returns c = show_init_at_once
