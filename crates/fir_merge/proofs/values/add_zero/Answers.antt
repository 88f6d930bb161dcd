use Rattle.fir_meaning.specs.Values.{number_of}
use Rattle.fir_merge.proofs.StandingValues.{same_value}
use Rattle.fir_merge.proofs.values.add_zero.Goals as goal

pub returns-clause-stands : goal.returns-clause-stands
returns-clause-stands c = λ holds.
    same_value holds c.add_value.new.net c.in_ok-add_value.field-0 _ (number_of c.args.ty 0) (λ i. record { signed = c.args.ty.signed; value = c.of.ensures i })
    (c.in_ok-add_value.ensures.stands holds)
