use Rattle.ver_build.specs.working.Walks.{AreHelpers}
use Rattle.ver_build.proofs.node_places.helpers.Given as goal

abbrev pub invariant-loop-k : goal.invariant-loop-k
invariant-loop-k l = AreHelpers l.table l.k l.from l.names.items l.next
