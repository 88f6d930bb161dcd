use Rattle.std.proofs.Common.{◌++◌, flat_map, map, ap, ◌∙◌}
use Rattle.std.proofs.lemmas.List.{take_all}
use Rattle.fir_fault_text.proofs.PutEach.{put_mapped}
use Rattle.fir_fault_text.proofs.walk_text.put_next.Goals as goal

pub loop-step-preserved : goal.loop-step-preserved
loop-step-preserved g c =
    put_mapped c.args.separator.now g.T.Text.text c.args.steps.now c.loop-step.step-index c.step-item.result _ c.args.out.now.items c.loop-step.out.items _ _
    c.loop-step-test.true c.step-item.is c.loop-step.invariant c.in_ok-extend_from_slice.ensures.items c.in_ok-put.ensures

pub returns : goal.returns
returns g c =
    let all = take_all c.loop-step.step-index c.args.steps.now c.loop-step-test.false in
    c.loop-step.invariant ∙ ap (λ xs. c.args.out.now.items ++ flat_map (λ next. c.args.separator.now ++ next) (map g.T.Text.text xs)) all
