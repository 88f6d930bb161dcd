use Rattle.fir_source_laws.proofs.PickedLeaves.{subaccesses_pick}
use Rattle.fir_source_laws.proofs.statement_laws.subaccesses_pick.Goals as goal

pub returns : goal.returns
returns c = subaccesses_pick
