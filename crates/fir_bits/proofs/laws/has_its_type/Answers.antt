use Rattle.fir_bits.proofs.Typing.{typed-outcome}
use Rattle.fir_bits.proofs.laws.has_its_type.Goals as goal

pub returns : goal.returns
returns c = typed-outcome
