use Rattle.std.proofs.Common.{◌≡◌, take}
use Rattle.fir_net.specs.Paths.{base_name}
use Rattle.fir_net_names.proofs.base_name.base_name.Given as goal

abbrev pub invariant-loop-byte : goal.invariant-loop-byte
invariant-loop-byte l = l.bytes.items ≡ base_name (take l.byte-index l.byte-items)
