use Rattle.std.proofs.Common.{◌≡◌, map, take}
use Rattle.fir_merge.proofs.values.reads_of.Given as goal

abbrev pub invariant-loop-operand : goal.invariant-loop-operand
invariant-loop-operand l = l.reads ≡ map (λ b. b.read) (take l.operand-index l.operands)
