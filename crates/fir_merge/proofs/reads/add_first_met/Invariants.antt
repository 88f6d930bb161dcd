use Rattle.std.proofs.Common.{◌≤◌, length}
use Rattle.fir_merge.proofs.StandingReads.{MetFrom}
use Rattle.fir_merge.proofs.reads.add_first_met.Given as goal

abbrev pub invariant-loop-left : goal.invariant-loop-left
invariant-loop-left l = record {
  so_far : MetFrom l.fn.net l.net l.ty l.leaf l.elements l.other l.left l.met;
  within : l.left ≤ length l.elements;
}

abbrev pub decreases-loop-left : goal.decreases-loop-left
decreases-loop-left l = l.left
