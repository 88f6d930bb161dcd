use Rattle.fir_design.proofs.OneSettled.{same_one}
use Rattle.fir_design.proofs.meaning_laws.sources_have_one_where_their_leaf_circuits_have.Goals as goal

pub returns : goal.returns
returns c = same_one
