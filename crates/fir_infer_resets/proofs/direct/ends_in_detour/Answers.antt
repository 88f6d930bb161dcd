use Rattle.std.proofs.Common.{◌-◌, arith, length, slice_index_or}
use Rattle.std.proofs.lemmas.Option.{slice_get-get_or}
use Rattle.fir_infer_resets.proofs.DroppedDetours.{are_elements, ends_in_detour, two_or_more}
use Rattle.fir_infer_resets.proofs.direct.ends_in_detour.Goals as goal

pub returns-then-count-lt2 : goal.returns-then-count-lt2
returns-then-count-lt2 c = ((λ t. cc t), (λ d. absurd (omega (arith, two_or_more c.args.ends.now c.args.kept.now c.args.next d))))

pub returns : goal.returns
returns c =
    let ends = c.args.ends.now in
    let kept = c.args.kept.now in
    let x = slice_index_or kept (length kept - 2) 0 in
    let at = slice_get-get_or kept (length kept - 2) 0 (omega arith) in
    let one = c.index-ends-kept in
    let other = c.index-ends-next in
    let within = c.requires.kept (length kept - 2) x at in (
      (λ t. ends_in_detour ends kept c.args.next x one.result other.result at one.is other.is within c.requires.next c.if-count-lt2.false (c.are_elements.ensures.0 t)),
      (λ d. c.are_elements.ensures.1 (are_elements ends kept c.args.next x one.result other.result at one.is other.is within c.requires.next d)),
    )
