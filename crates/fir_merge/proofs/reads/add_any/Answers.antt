use Rattle.fir_connect.specs.working.NetTerms.{no_terms, term}
use Rattle.fir_merge.proofs.reads.add_any.Goals as goal

pub returns-clause-stands : goal.returns-clause-stands
returns-clause-stands c = λ holds i index_is. c.in_ok-add_operation.ensures.stands holds (term i no_terms) (index_is, tt)
