use Rattle.std.proofs.Common.{◌≡◌, take}
use Rattle.fir_flatten.proofs.array_ports.put_bit.Given as goal

abbrev pub invariant-loop-operand : goal.invariant-loop-operand
invariant-loop-operand l = l.reads ≡ take l.operand-index l.operands
