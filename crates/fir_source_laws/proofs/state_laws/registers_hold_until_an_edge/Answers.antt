use Rattle.fir_source_laws.proofs.KeptWords.{hold_until_edge}
use Rattle.fir_source_laws.proofs.state_laws.registers_hold_until_an_edge.Goals as goal

pub returns : goal.returns
returns c = hold_until_edge
