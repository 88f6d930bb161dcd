use Rattle.std.proofs.Common.{◌≡◌}
use Rattle.ver_runner.specs.Orders.{numbers_from}
use Rattle.ver_runner.proofs.orders.numbers.Given as goal

abbrev pub invariant-loop-number : goal.invariant-loop-number
invariant-loop-number l = l.round.items ≡ numbers_from 0 l.number
