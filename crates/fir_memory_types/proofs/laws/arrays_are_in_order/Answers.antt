use Rattle.fir_memory_types.proofs.ArraysInOrder.{arrays_in_order}
use Rattle.fir_memory_types.proofs.laws.arrays_are_in_order.Goals as goal

pub returns : goal.returns
returns c = arrays_in_order
