use Rattle.fir_connect.proofs.RoleReading.{roles_read_the_same}
use Rattle.fir_connect.proofs.role_laws.roles_read_the_same.Goals as goal

pub returns : goal.returns
returns c = roles_read_the_same
