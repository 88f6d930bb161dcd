use Rattle.std.proofs.Common.{◌≡◌, ◌-◌, length}
use Rattle.ver_runner.specs.Orders.{shuffled}
use Rattle.ver_runner.proofs.orders.shuffle.Given as goal

abbrev pub invariant-loop-i : goal.invariant-loop-i
invariant-loop-i l = shuffled (l.i - 1) l.seed l.list ≡ shuffled (length l.fn.list - 1) l.number l.fn.list
