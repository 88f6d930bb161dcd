use Rattle.fir_gen_driven.proofs.GroupsClear.{groups_clear}
use Rattle.fir_gen_driven.proofs.laws.gen_is_driven.Goals as goal

pub returns : goal.returns
returns c at n some few = groups_clear at n
