use Rattle.std.proofs.Common.{◌-◌, ◌≤◌}
use Rattle.fir_merge.proofs.StandingElements.{AddsSoFar}
use Rattle.fir_merge.proofs.elements.push_elements.Given as goal

abbrev pub invariant-loop-number : goal.invariant-loop-number
invariant-loop-number l = record {
  so_far : AddsSoFar l.fn.net l.net l.earlier l.first l.index l.fn.elements.items l.elements.items l.offset l.number;
  within : l.number ≤ l.index.length;
}

abbrev pub decreases-loop-number : goal.decreases-loop-number
decreases-loop-number l = l.index.length - l.number
