use Rattle.fir_design.proofs.SourceMeanings.{same_shape}
use Rattle.fir_design.proofs.meaning_laws.leaf_circuits_have_the_shape_of_their_sources.Goals as goal

pub returns : goal.returns
returns c = same_shape
