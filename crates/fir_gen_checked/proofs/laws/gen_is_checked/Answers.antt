use Rattle.fir_gen_checked.proofs.ClearGroups.{gen_is_checked}
use Rattle.fir_gen_checked.proofs.laws.gen_is_checked.Goals as goal

pub returns : goal.returns
returns c = gen_is_checked
