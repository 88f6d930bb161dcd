use Rattle.std.proofs.Common.{◌+◌, drop}
use Rattle.fir_names.proofs.FirstMentions.{views_left}
use Rattle.fir_infer_resets.specs.working.Holding.{path_of, step_of}
use Rattle.fir_meaning.specs.LeafPaths.{step_text}
use Rattle.fir_infer_resets.proofs.AppendedTexts.{next_appended}
use Rattle.fir_infer_resets.proofs.path_text.put_steps.Goals as goal

pub loop-step-preserved : goal.loop-step-preserved
loop-step-preserved c =
    let path = c.args.steps.now in
    let i = c.loop-step.step-index in
    let step = c.step-item.result in
    next_appended step_text (path_of (drop i path)) (path_of (drop (i + 1) path)) (step_of step) c.loop-step.out.items c.put_step.new.out.items _
    (views_left step_of path i step c.loop-step-test.true c.step-item.is) c.in_ok-put_step.ensures c.loop-step.invariant
