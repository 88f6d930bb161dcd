use Rattle.fir_meaning.specs.working.Flattened.{flattened}
use Rattle.fir_design_loops.proofs.DesignDependence.{design_dependence, design_inits}
use Rattle.fir_design_loops.proofs.InitWalks.{same_inits}
use Rattle.fir_design_loops.proofs.loop_laws.inits_stand_by_path.Goals as goal

pub returns : goal.returns
returns c circuit d t f a =
    let roles = c.views_have_roles.ensures in
    let reading = c.terms_read_as_expressions.ensures in
    let drives = c.live_reads_stand_by_path.ensures in
    same_inits (flattened d) t (design_dependence circuit roles reading drives d t a) (design_inits circuit roles reading drives d t a) f
