use Rattle.fir_bits.proofs.Wider.{counted_width-le}
use Rattle.fir_bits.proofs.laws.monotone.Goals as goal

pub returns : goal.returns
returns c = counted_width-le
