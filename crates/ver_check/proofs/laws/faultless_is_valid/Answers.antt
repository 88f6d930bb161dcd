use Rattle.ver_check.proofs.FaultlessTrees.{faultless_is_valid, valid_is_faultless}
use Rattle.ver_check.proofs.laws.faultless_is_valid.Goals as goal

pub returns : goal.returns
returns c v shallow = (λ h. faultless_is_valid v shallow h.0 h.1 h.2, λ h. valid_is_faultless v h)
