use Rattle.std.proofs.Common.{[], ◌∷◌, ◌++◌, sym, ◌∙◌}
use Rattle.std.proofs.lemmas.List.{map_more}
use Rattle.fir_merge.specs.declared.bound.Bound.{Bound}
use Rattle.fir_merge.proofs.values.operation_type.Goals as goal

pub loop-operand-preserved : goal.loop-operand-preserved
loop-operand-preserved c =
    let of_type = λ (b : Bound). b.ty in
    let o = c.operand-item.result in
    c.in_ok-push.ensures.items ∙ (λ j. c.loop-operand.invariant j ++ of_type (c.operand-item.is j) ∷ [])
    ∙ sym (map_more of_type c.args.operands.now c.loop-operand.operand-index o c.loop-operand-test.true)
