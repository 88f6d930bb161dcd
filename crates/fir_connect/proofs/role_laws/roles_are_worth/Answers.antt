use Rattle.fir_connect.proofs.RoleValues.{roles_are_worth}
use Rattle.fir_connect.proofs.role_laws.roles_are_worth.Goals as goal

pub returns : goal.returns
returns c = roles_are_worth
