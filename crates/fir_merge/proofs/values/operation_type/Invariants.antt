use Rattle.std.proofs.Common.{◌≡◌, map, take}
use Rattle.fir_merge.proofs.values.operation_type.Given as goal

abbrev pub invariant-loop-operand : goal.invariant-loop-operand
invariant-loop-operand l = l.types.items ≡ map (λ b. b.ty) (take l.operand-index l.operands)
