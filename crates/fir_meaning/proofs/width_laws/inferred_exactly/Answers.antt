use Rattle.fir_meaning.proofs.InferredCircuits.{inferred_exactly}
use Rattle.fir_meaning.proofs.width_laws.inferred_exactly.Goals as goal

pub returns : goal.returns
returns c = inferred_exactly c.monotone.ensures
