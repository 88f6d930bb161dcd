use Rattle.std.proofs.Common.{length}
use Rattle.fir_merge.proofs.reads.+add_chosen.Given as goal

abbrev pub decreases-add_chosen : goal.decreases-add_chosen
decreases-add_chosen l = length l.indices.now
