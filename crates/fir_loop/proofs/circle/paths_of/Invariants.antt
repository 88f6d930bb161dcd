use Rattle.std.proofs.Common.{◌≡◌, take, map}
use Rattle.fir_loop.specs.working.IsLoop.{path_of}
use Rattle.fir_loop.proofs.circle.paths_of.Given as goal

abbrev pub invariant-loop-leaf : goal.invariant-loop-leaf
invariant-loop-leaf l = l.names.items ≡ map (path_of l.net) (take l.leaf-index l.walk)
