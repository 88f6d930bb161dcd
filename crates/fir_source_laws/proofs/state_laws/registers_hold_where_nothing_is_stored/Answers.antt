use Rattle.fir_source_laws.proofs.ShownRegisters.{hold_where_nothing_is_stored}
use Rattle.fir_source_laws.proofs.state_laws.registers_hold_where_nothing_is_stored.Goals as goal

pub returns : goal.returns
returns c = hold_where_nothing_is_stored
