use Rattle.std.proofs.Common.{◌≡◌, ◌+◌, ◌∷◌, ◌∙◌, ap, drop, rules, sym}
use Rattle.std.specs.Prelude.{option_map}
use Rattle.std.proofs.lemmas.List.{drop_more}
use Rattle.fir_type_table.specs.working.Saturated.{saturated}
use Rattle.fir_type_table.specs.working.Tables.{types_of}
use Rattle.fir_types.specs.working.Seen.{found_type}
use Rattle.fir_infer_resets.specs.working.Holding.{path_of, step_of}
use Rattle.fir_reset.specs.working.LeafClasses.{offset_in}
use Rattle.fir_infer_resets.proofs.SteppedOffsets.{none_yet, step_more}
use Rattle.fir_infer_resets.proofs.leaf_offsets.leaves_before.Goals as goal

pub loop-step-init : goal.loop-step-init
loop-step-init c = none_yet (offset_in (found_type (types_of c.args.table.now) c.args.found) (path_of c.args.path.now))

pub loop-step-preserved : goal.loop-step-preserved
loop-step-preserved c =
    let ts = types_of c.args.table.now in
    let path = c.args.path.now in
    let i = c.loop-step.step-index in
    let x = c.step-item.result in
    let before = c.loop-step.before in
    let left : drop i path ≡ x ∷ drop (i + 1) path = drop_more path i x (search rules) ∙ ap (λ y. y ∷ drop (i + 1) path) (sym c.step-item.is) in
    step_more ts c.loop-step.reached c.in_ok-next.next (step_of x) before c.in_ok-next.more c.saturating_add-before.result (path_of (drop (i + 1) path))
    c.in_ok-next.ensures c.saturating_add-before.ensures
    ∙ ap (λ steps. option_map (λ k. saturated (before + k)) (offset_in (found_type ts c.loop-step.reached) (path_of steps))) (sym left)
    ∙ c.loop-step.invariant
