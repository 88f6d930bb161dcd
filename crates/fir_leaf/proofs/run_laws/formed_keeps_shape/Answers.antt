use Rattle.fir_leaf.proofs.StateShapes.{formed_keeps_shape}
use Rattle.fir_leaf.proofs.run_laws.formed_keeps_shape.Goals as goal

pub returns : goal.returns
returns c = formed_keeps_shape
