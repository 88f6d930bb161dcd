use Rattle.std.proofs.Common.{◌∷◌, ◌++◌, [], sym, ap₂, ◌∙◌}
use Rattle.std.proofs.lemmas.List.{take_more}
use Rattle.fir_flatten.proofs.array_ports.put_bit.Goals as goal

pub loop-operand-preserved : goal.loop-operand-preserved
loop-operand-preserved c =
    c.in_ok-push.ensures ∙ ap₂ (λ reads read. reads ++ read ∷ []) c.loop-operand.invariant c.operand-item.is
    ∙ sym (take_more c.args.operands.now c.loop-operand.operand-index c.operand-item.result c.loop-operand-test.true)
