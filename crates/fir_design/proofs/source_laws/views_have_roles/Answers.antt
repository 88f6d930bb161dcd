use Rattle.fir_design.proofs.ViewRoles.{views_same}
use Rattle.fir_design.proofs.source_laws.views_have_roles.Goals as goal

pub returns : goal.returns
returns c = views_same
