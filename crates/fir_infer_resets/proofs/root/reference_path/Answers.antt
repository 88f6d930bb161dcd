use Rattle.std.proofs.Common.{◌+◌, [], ◌∷◌, ◌++◌, drop, map, sym, ap, ◌∙◌, append_assoc, append-nil}
use Rattle.std.proofs.lemmas.List.{drop_all, map-append}
use Rattle.fir_ast.specs.working.Views.{parts_of}
use Rattle.fir_names.specs.working.Parts.{part_of, part_view}
use Rattle.fir_types.specs.working.Seen.{steps_of}
use Rattle.fir_types.proofs.PartViews.{part_steps, parts_left}
use Rattle.fir_infer_resets.specs.working.Holding.{path_of, step_of}
use Rattle.fir_infer_resets.proofs.root.reference_path.Goals as goal

pub loop-part-preserved : goal.loop-part-preserved
loop-part-preserved c =
    let parts = c.deref-part-items.result.now in
    let i = c.loop-part.part-index in
    let part = c.part-item.result in
    let rest = parts_of (map part_of (drop (i + 1) parts)) in
    let before = path_of c.loop-part.path.items in
    let step = step_of c.first_step.result in
    let left = ap steps_of (parts_left parts i part c.loop-part-test.true c.part-item.is) ∙ part_steps part rest in
    ap (λ l. path_of l ++ steps_of rest) c.in_ok-push-2.ensures.items
    ∙ ap (λ l. l ++ steps_of rest) (map-append step_of c.loop-part.path.items (c.first_step.result ∷ []))
    ∙ append_assoc before (step ∷ []) (steps_of rest)
    ∙ ap (λ l. before ++ (l ++ steps_of rest)) c.first_step.ensures
    ∙ ap (λ l. before ++ l) (sym left)
    ∙ c.loop-part.invariant

pub returns : goal.returns
returns c =
    let path = path_of c.loop-part.path.items in
    sym (append-nil path)
    ∙ ap (λ ps. path ++ steps_of (parts_of (map part_of ps))) (sym (drop_all c.loop-part.part-index c.deref-part-items.result.now c.loop-part-test.false))
    ∙ c.loop-part.invariant
