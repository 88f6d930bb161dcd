use Rattle.std.proofs.Common.{◌≡◌, Some, rules, slice_index_or}
use Rattle.std.specs.Prelude.{slice_get}
use Rattle.std.proofs.lemmas.Option.{slice_get-get_or}
use Rattle.fir_infer_resets.proofs.StepTexts.{one_more}
use Rattle.fir_infer_resets.proofs.told.steps_of.Goals as goal

pub loop-number-preserved : goal.loop-number-preserved
loop-number-preserved c =
    let walk = c.args.walk.now in
    let i = c.loop-number.number-index in
    let x = slice_index_or walk i 0 in
    let at : slice_get walk i ≡ Some x = slice_get-get_or walk i 0 (search rules) in
    one_more c.args.ends.now walk i x c.index-ends-number.result c.loop-number.steps.items c.push.new.self.items c.in_ok-step_of.field-0 at (c.requires i x at)
    c.index-ends-number.is c.in_ok-step_of.ensures c.in_ok-push.ensures.items c.loop-number.invariant
