use Rattle.fir_equivalence.proofs.Equivalent.{rewritten}
use Rattle.fir_equivalence.proofs.laws.rewritten_is_equivalent.Goals as goal

pub returns : goal.returns
returns c = rewritten c.ordered_has_one.ensures
