use Rattle.fir_source_laws.proofs.ShownRegisters.{show_their_word}
use Rattle.fir_source_laws.proofs.state_laws.registers_show_their_word.Goals as goal

pub returns : goal.returns
returns c = show_their_word
