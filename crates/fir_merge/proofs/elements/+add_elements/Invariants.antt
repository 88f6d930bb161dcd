use Rattle.std.proofs.Common.{length}
use Rattle.fir_merge.proofs.elements.+add_elements.Given as goal

abbrev pub decreases-add_elements : goal.decreases-add_elements
decreases-add_elements l = length l.indices.now
