use Rattle.ver_build.proofs.Walk.{NodeLoop}
use Rattle.ver_build.proofs.node_places.node_places.Given as goal

abbrev pub invariant-loop-read : goal.invariant-loop-read
invariant-loop-read l = NodeLoop l.net l.table l.order l.nodes.items l.readings.items l.read-index l.last
