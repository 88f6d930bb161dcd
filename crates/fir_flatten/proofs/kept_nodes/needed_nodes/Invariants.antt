use Rattle.std.proofs.Common.{◌≡◌, length}
use Rattle.fir_merge.specs.working.NodeTerms.{ReadBefore}
use Rattle.fir_flatten.proofs.NeededMarks.{NodesMarked, RolesMarked}
use Rattle.fir_flatten.proofs.kept_nodes.needed_nodes.Given as goal

abbrev pub invariant-loop-role : goal.invariant-loop-role
invariant-loop-role l = RolesMarked l.nodes l.roles l.role-index l.needed.items

abbrev pub invariant-loop-number : goal.invariant-loop-number
invariant-loop-number l = record {
  long : length l.needed.items ≡ length l.nodes;
  marked : ReadBefore 0 l.nodes → NodesMarked l.nodes l.roles l.number l.needed.items;
}
