use Rattle.std.proofs.Common.{◌≡◌, ◌++◌, drop}
use Rattle.ver_sim.proofs.order.numbers.Given as goal

abbrev pub invariant-loop-number : goal.invariant-loop-number
invariant-loop-number l = l.found.items ++ drop l.number-index l.order ≡ l.order
