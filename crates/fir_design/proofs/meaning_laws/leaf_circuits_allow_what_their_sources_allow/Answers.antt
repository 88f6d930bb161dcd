use Rattle.fir_design.proofs.SourceMeanings.{same_allows}
use Rattle.fir_design.proofs.meaning_laws.leaf_circuits_allow_what_their_sources_allow.Goals as goal

pub returns : goal.returns
returns c = same_allows
