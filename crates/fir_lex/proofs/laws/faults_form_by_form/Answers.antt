use Rattle.std.proofs.Common.{sym, subst}
use Rattle.fir_lex.specs.TokenFaults.{TokenFault}
use Rattle.fir_lex.proofs.FaultsFound.{fault_found}
use Rattle.fir_lex.proofs.FaultsTold.{fault_told}
use Rattle.fir_lex.proofs.laws.faults_form_by_form.Goals as goal

pub returns : goal.returns
returns c bytes f = ((λ h. subst (TokenFault bytes) (sym h.2) (fault_found bytes h.0 h.1)), fault_told bytes f)
