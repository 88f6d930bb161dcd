use Rattle.std.proofs.Common.{◌++◌, flat_map, refl, ap, ◌∙◌}
use Rattle.std.proofs.lemmas.List.{take_all}
use Rattle.fir_ast.specs.Texts.{outcome_text}
use Rattle.fir_fault_text.proofs.PutEach.{put_more}
use Rattle.fir_fault_text.proofs.walk_text.put_choice.Goals as goal

pub loop-outcome-preserved : goal.loop-outcome-preserved
loop-outcome-preserved c =
    put_more outcome_text c.args.choice.now c.loop-outcome.outcome-index _ _ c.args.out.now.items c.loop-outcome.out.items _
    c.loop-outcome-test.true refl c.loop-outcome.invariant c.in_ok-put_outcome.ensures

pub returns : goal.returns
returns c =
    let all = take_all c.loop-outcome.outcome-index c.args.choice.now c.loop-outcome-test.false in
    c.loop-outcome.invariant ∙ ap (λ xs. c.args.out.now.items ++ flat_map outcome_text xs) all
