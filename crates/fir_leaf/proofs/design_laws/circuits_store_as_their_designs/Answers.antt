use Rattle.fir_leaf.proofs.CircuitPaths.{same_circuit_stores}
use Rattle.fir_leaf.proofs.design_laws.circuits_store_as_their_designs.Goals as goal

pub returns : goal.returns
returns c = same_circuit_stores
