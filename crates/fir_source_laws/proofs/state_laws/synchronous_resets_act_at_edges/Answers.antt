use Rattle.fir_source_laws.proofs.ShownRegisters.{are_reset_at_edge}
use Rattle.fir_source_laws.proofs.state_laws.synchronous_resets_act_at_edges.Goals as goal

pub returns : goal.returns
returns c = are_reset_at_edge
