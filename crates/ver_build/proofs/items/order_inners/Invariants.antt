use Rattle.std.proofs.Common.{◌≡◌, take, flat_map}
use Rattle.ver_build.specs.working.Built.{read_inners}
use Rattle.ver_build.proofs.items.order_inners.Given as goal

abbrev pub invariant-loop-read : goal.invariant-loop-read
invariant-loop-read l = l.inners.items ≡ flat_map (read_inners l.net l.table l.places) (take l.read-index l.order)
