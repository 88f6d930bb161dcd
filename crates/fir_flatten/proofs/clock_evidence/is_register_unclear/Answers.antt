use Rattle.std.proofs.Common.{refl, subst}
use Rattle.fir_whens.specs.working.StandingRoles.{RoleStands}
use Rattle.fir_flatten.proofs.UnclearReads.{register_unclear}
use Rattle.fir_flatten.proofs.clock_evidence.is_register_unclear.Goals as goal

pub returns-in-Node : goal.returns-in-Node
returns-in-Node c = λ types nodes u r before stands. (
  λ e.
      register_unclear nodes before types c.in-Register.clock c.in-Register.field-2 c.in-Register.field-1 c.in-Node.field-0 u r c.in-Node.is
      (subst (λ role. RoleStands types nodes role r) c.in-Register.is stands),
  λ h. refl,
)
