use Rattle.std.proofs.Common.{◌≡◌, take}
use Rattle.fir_drop_dead.specs.working.Moved.{kept_order}
use Rattle.fir_drop_dead.proofs.kept_net.kept_order.Given as goal

abbrev pub invariant-loop-read : goal.invariant-loop-read
invariant-loop-read l = l.moved.items ≡ kept_order l.kept (take l.read-index l.order)
