use Rattle.std.proofs.Common.{length}
use Rattle.fir_whens.proofs.ReadRoles.{RolesSoFar}
use Rattle.fir_whens.proofs.net_role.net_roles.Given as goal

abbrev pub invariant-loop-leaf : goal.invariant-loop-leaf
invariant-loop-leaf l = RolesSoFar l.nodes l.bounds l.nothing l.drivers l.leaves l.roles.items (length l.yielded)
