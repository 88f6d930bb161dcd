use Rattle.fir_source_laws.proofs.DeclaredLeaves.{are_declared}
use Rattle.fir_source_laws.proofs.state_laws.registers_are_declared.Goals as goal

pub returns : goal.returns
returns c = are_declared
