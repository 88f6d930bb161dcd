use Rattle.std.proofs.Common.{◌≡◌, map, take}
use Rattle.fir_fold.specs.working.Standing.{stands_for}
use Rattle.fir_fold.proofs.node_reads.reads_anew.Given as goal

abbrev pub invariant-loop-read : goal.invariant-loop-read
invariant-loop-read l = l.all ≡ map (stands_for l.stands) (take l.read-index l.reads)
