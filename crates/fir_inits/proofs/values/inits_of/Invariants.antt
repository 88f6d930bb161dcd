use Rattle.std.proofs.Common.{◌≡◌, map, take}
use Rattle.fir_inits.specs.working.Constants.{init_number}
use Rattle.fir_inits.proofs.values.inits_of.Given as goal

abbrev pub invariant-loop-leaf : goal.invariant-loop-leaf
invariant-loop-leaf l = l.inits.items ≡ map (init_number l.net l.numbers) (take l.leaf-index l.leaf-items)
