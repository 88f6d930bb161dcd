use Rattle.std.proofs.Common.{◌+◌, ◌∷◌, ◌++◌, drop, flat_map, map, sym, ap, ◌∙◌, append_assoc, append-nil}
use Rattle.std.proofs.lemmas.List.{drop_all}
use Rattle.std.proofs.lemmas.List.Concat.{flat_map-append}
use Rattle.fir_ast.specs.working.Views.{parts_of}
use Rattle.fir_meaning.specs.LeafPaths.{named, path_text, step_text}
use Rattle.fir_names.specs.working.Parts.{part_of, part_view}
use Rattle.fir_types.specs.working.Seen.{sink_path, steps_of}
use Rattle.fir_types.proofs.PartViews.{part_steps, parts_left, sink_view}
use Rattle.fir_infer_widths.proofs.leaf_path.put_reference.Goals as goal

pub loop-part-init : goal.loop-part-init
loop-part-init c =
    let r = c.args.reference.now in
    let text = flat_map step_text (steps_of (parts_of (map part_of c.deref-part-items.result.now))) in
    ap (λ l. l ++ text) (c.in_ok-extend_from_slice.ensures.items ∙ ap (λ l. c.args.out.now.items ++ l) c.as_bytes.ensures)
    ∙ append_assoc c.args.out.now.items r.name text
    ∙ ap (λ ps. c.args.out.now.items ++ path_text (named r.name ∷ steps_of (parts_of (map part_of ps)))) c.deref-part-items.ensures.value
    ∙ ap (λ s. c.args.out.now.items ++ path_text (sink_path s)) (sym (sink_view r))

pub loop-part-preserved : goal.loop-part-preserved
loop-part-preserved c =
    let parts = c.deref-part-items.result.now in
    let i = c.loop-part.part-index in
    let part = c.part-item.result in
    let rest = parts_of (map part_of (drop (i + 1) parts)) in
    let before = c.loop-part.out.items in
    let left = ap steps_of (parts_left parts i part c.loop-part-test.true c.part-item.is) ∙ part_steps part rest in
    ap (λ l. l ++ flat_map step_text (steps_of rest)) c.in_ok-put_step.ensures
    ∙ append_assoc before (flat_map step_text (steps_of (part_view part))) (flat_map step_text (steps_of rest))
    ∙ ap (λ l. before ++ l) (sym (flat_map-append step_text (steps_of (part_view part)) (steps_of rest)))
    ∙ ap (λ l. before ++ flat_map step_text l) (sym left)
    ∙ c.loop-part.invariant

pub returns : goal.returns
returns c =
    sym (append-nil c.loop-part.out.items)
    ∙ ap (λ ps. c.loop-part.out.items ++ flat_map step_text (steps_of (parts_of (map part_of ps)))) (sym (drop_all c.loop-part.part-index c.deref-part-items.result.now c.loop-part-test.false))
    ∙ c.loop-part.invariant
