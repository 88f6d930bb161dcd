use Rattle.std.proofs.Common.{below_more, arith}
use Rattle.fir_graph.proofs.Reaching.{all_reached}
use Rattle.fir_graph.proofs.ordering.search.Goals as goal

pub loop-vertex-preserved : goal.loop-vertex-preserved
loop-vertex-preserved g c = record {
  idle = c.in_ok-reach.ensures.ok.idle;
  met = below_more _ _ (λ v l. c.in_ok-reach.ensures.ok.met v (c.loop-vertex.invariant.met v l)) c.in_ok-reach.ensures.ok.reached;
}

pub returns-clause-ok : goal.returns-clause-ok
returns-clause-ok g c = rw c.into_order.ensures (all_reached _ _ c.loop-vertex.search c.loop-vertex.invariant.idle (λ v l. c.loop-vertex.invariant.met v (omega (arith, c.loop-vertex-test.false, c.size-vertex-end.ensures, l))))
