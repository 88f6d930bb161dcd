use Rattle.std.proofs.Common.{◌++◌, flat_map, refl, ap, ◌∙◌}
use Rattle.std.specs.Prelude.{codes, decimal}
use Rattle.std.proofs.lemmas.List.{take_all}
use Rattle.fir_fault_text.proofs.PutEach.{put_behind}
use Rattle.fir_fault_text.proofs.walk_text.put_numbers.Goals as goal

pub loop-number-preserved : goal.loop-number-preserved
loop-number-preserved c =
    put_behind (codes " ") decimal c.args.numbers.now c.loop-number.number-index _ _ c.args.out.now.items c.loop-number.out.items _ _
    c.loop-number-test.true refl c.loop-number.invariant c.in_ok-extend_from_slice.ensures.items c.in_ok-put_decimal.ensures

pub returns : goal.returns
returns c =
    let all = take_all c.loop-number.number-index c.args.numbers.now c.loop-number-test.false in
    c.loop-number.invariant ∙ ap (λ xs. c.args.out.now.items ++ flat_map (λ n. codes " " ++ decimal n) xs) all
