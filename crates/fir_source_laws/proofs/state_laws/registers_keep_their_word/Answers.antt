use Rattle.fir_source_laws.proofs.ShownRegisters.{keep_without_edge}
use Rattle.fir_source_laws.proofs.state_laws.registers_keep_their_word.Goals as goal

pub returns : goal.returns
returns c = keep_without_edge
