use Rattle.std.proofs.Common.{◌≡◌, take}
use Rattle.ver_build.specs.working.Built.{leaf_port, along}
use Rattle.ver_build.proofs.items.ports_of.Given as goal

abbrev pub invariant-loop-k : goal.invariant-loop-k
invariant-loop-k l = l.ports.items ≡ along leaf_port l.table.leaves 0 (take l.k l.leaves)
