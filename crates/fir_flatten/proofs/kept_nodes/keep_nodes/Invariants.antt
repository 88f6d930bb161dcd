use Rattle.fir_flatten.proofs.KeptInPlace.{KeptInPlace}
use Rattle.fir_flatten.proofs.kept_nodes.keep_nodes.Given as goal

abbrev pub invariant-loop-number : goal.invariant-loop-number
invariant-loop-number l = KeptInPlace l.fn.nodes.items l.roles l.needed.items l.number l.count l.nodes.items l.places.items
