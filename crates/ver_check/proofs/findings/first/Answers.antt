use Rattle.std.proofs.Common.{subst}
use Rattle.std.specs.Prelude.{Option}
use Rattle.ver_fault.specs.declared.fault.VerFault.{VerFault}
use Rattle.ver_check.specs.working.Findings.{IsFirst}
use Rattle.ver_fault.specs.View.{vfault_of}
use Rattle.ver_check.proofs.Firsts.{begins_more}
use Rattle.ver_check.proofs.findings.first.Goals as goal

pub returns-in-Some : goal.returns-in-Some
returns-in-Some c = λ fs gs h k. begins_more (vfault_of c.in-Some.fault) fs gs (subst (λ (o : Option VerFault). IsFirst o fs) c.in-Some.is h)
