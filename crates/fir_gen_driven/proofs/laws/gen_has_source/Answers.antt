use Rattle.fir_gen_driven.proofs.SourceParts.{has_source}
use Rattle.fir_gen_driven.proofs.laws.gen_has_source.Goals as goal

pub returns : goal.returns
returns c at n some few = has_source at n some
