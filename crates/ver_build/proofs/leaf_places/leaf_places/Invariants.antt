use Rattle.ver_build.proofs.LeafWalk.{LeafLoop}
use Rattle.ver_build.proofs.leaf_places.leaf_places.Given as goal

abbrev pub invariant-loop-read : goal.invariant-loop-read
invariant-loop-read l = LeafLoop l.net l.table l.order l.nodes l.readings l.places.items l.read-index
