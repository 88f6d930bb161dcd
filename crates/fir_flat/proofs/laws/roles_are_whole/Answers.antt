use Rattle.fir_flat.proofs.WholeRoles.{roles_are_whole}
use Rattle.fir_flat.proofs.laws.roles_are_whole.Goals as goal

pub returns : goal.returns
returns c = roles_are_whole
