use Rattle.fir_gen_spelled.proofs.Whole.{gen_is_spelled}
use Rattle.fir_gen_spelled.proofs.laws.gen_is_spelled.Goals as goal

pub returns : goal.returns
returns c = gen_is_spelled
