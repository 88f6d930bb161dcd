use Rattle.fir_source_laws.proofs.ShownRegisters.{take_what_is_stored}
use Rattle.fir_source_laws.proofs.state_laws.registers_take_what_is_stored.Goals as goal

pub returns : goal.returns
returns c = take_what_is_stored
