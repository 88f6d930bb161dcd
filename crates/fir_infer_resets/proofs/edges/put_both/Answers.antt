use Rattle.fir_infer_resets.proofs.AddedEdges.{adds_both}
use Rattle.fir_infer_resets.proofs.edges.put_both.Goals as goal

pub returns : goal.returns
returns c = adds_both _ _ _ _ _ c.in_ok-put.ensures c.in_ok-put-2.ensures
