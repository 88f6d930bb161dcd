use Rattle.fir_clock_root.proofs.InputNumbers.{root_is_clock}
use Rattle.fir_clock_root.proofs.laws.root_is_clock.Goals as goal

pub returns : goal.returns
returns c = root_is_clock
