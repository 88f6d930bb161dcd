use Rattle.fir_meaning.specs.working.Flattened.{flattened}
use Rattle.fir_source_faults.proofs.LoopWalks.{same_loops}
use Rattle.fir_design_loops.proofs.DesignDependence.{design_dependence}
use Rattle.fir_design_loops.proofs.loop_laws.loops_stand_by_path.Goals as goal

pub returns : goal.returns
returns c circuit d t f a =
    same_loops (flattened d) t
    (design_dependence circuit c.views_have_roles.ensures c.terms_read_as_expressions.ensures c.live_reads_stand_by_path.ensures d t a) f
