use Rattle.fir_graph.proofs.SearchSteps.{root_enters, root_met, root_is_met}
use Rattle.fir_graph.proofs.search.Search.reach.Goals as goal

pub loop-top-init : goal.loop-top-init
loop-top-init g c = record {
  knows = root_enters _ _ _ _ _ c.requires.idle c.in-New.ensures c.in_ok-enter.ensures;
  reached = root_is_met _ _ _ c.in-New.ensures c.in_ok-enter.ensures;
  met = root_met _ _ _ c.in-New.ensures c.in_ok-enter.ensures;
}
