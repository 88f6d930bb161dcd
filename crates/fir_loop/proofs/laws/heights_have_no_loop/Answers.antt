use Rattle.fir_loop.proofs.Heights.{no_high_loop}
use Rattle.fir_loop.proofs.laws.heights_have_no_loop.Goals as goal

pub returns : goal.returns
returns c = λ net walk h l. no_high_loop net h walk l
