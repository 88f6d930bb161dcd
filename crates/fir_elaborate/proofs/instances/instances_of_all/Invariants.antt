use Rattle.std.proofs.Common.{◌≡◌, length, map, take}
use Rattle.fir_elaborate.specs.working.Walks.{AreHeld}
use Rattle.fir_elaborate.proofs.instances.instances_of_all.Given as goal

abbrev pub invariant-loop-module : goal.invariant-loop-module
invariant-loop-module l = (length l.held.items ≡ l.module-index) × AreHeld (take l.module-index l.modules) (map (λ is. is.items) l.held.items)
