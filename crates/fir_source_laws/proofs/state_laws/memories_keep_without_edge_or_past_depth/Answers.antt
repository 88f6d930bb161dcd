use Rattle.fir_source_laws.proofs.WrittenWords.{stay_without_edge_or_past_depth}
use Rattle.fir_source_laws.proofs.state_laws.memories_keep_without_edge_or_past_depth.Goals as goal

pub returns : goal.returns
returns c = stay_without_edge_or_past_depth
