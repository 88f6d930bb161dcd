use Rattle.std.proofs.Common.{subst}
use Rattle.std.proofs.lemmas.Result.{IfOk-weaker}
use Rattle.fir_bits.specs.declared.types.NumTy.{NumTy}
use Rattle.fir_drivers.specs.working.Walks.{ZeroStandsAt}
use Rattle.fir_drivers.proofs.drives.zero_of.Goals as goal

pub returns-clause-stands : goal.returns-clause-stands
returns-clause-stands c =
    IfOk-weaker c.add_zero.result _ _
    (λ r zero. subst (λ (t : NumTy). ZeroStandsAt c.add_zero.new.net t r) c.type_at-ty.ensures (λ holds narrow. zero holds)) c.add_zero.ensures.stands
