use Rattle.std.proofs.Common.{◌+◌, ◌++◌, map, drop, sym, ap, ◌∙◌}
use Rattle.std.proofs.lemmas.List.{drop_all}
use Rattle.fir_ast.specs.working.Views.{parts_of, sink_of}
use Rattle.fir_meaning.specs.LeafPaths.{path_text}
use Rattle.fir_names.specs.working.Parts.{part_of}
use Rattle.fir_types.specs.working.Seen.{sink_path}
use Rattle.fir_types.proofs.PartViews.{parts_left}
use Rattle.fir_check.proofs.PathTexts.{parts_text, path_begun, path_done, path_more}
use Rattle.fir_check.proofs.drives.put_reference.Goals as goal

pub loop-part-init : goal.loop-part-init
loop-part-init c =
    path_begun c.args.reference.now c.args.out.now.items c.extend_from_slice.new.self.items c.deref-part-items.result.now c.deref-part-items.ensures.value
    (c.in_ok-extend_from_slice.ensures.items ∙ ap (λ xs. c.args.out.now.items ++ xs) c.as_bytes.ensures)

pub loop-part-preserved : goal.loop-part-preserved
loop-part-preserved c =
    let parts = c.deref-part-items.result.now in
    let i = c.loop-part.part-index in
    let out = c.loop-part.out.items in
    path_more (c.args.out.now.items ++ path_text (sink_path (sink_of c.args.reference.now))) out c.put_step.new.out.items c.part-item.result
    (parts_of (map part_of (drop (i + 1) parts))) c.in_ok-put_step.ensures
    (ap (λ ps. out ++ parts_text ps) (sym (parts_left parts i c.part-item.result c.loop-part-test.true c.part-item.is)) ∙ c.loop-part.invariant)

pub returns : goal.returns
returns c =
    let none = drop_all c.loop-part.part-index c.deref-part-items.result.now c.loop-part-test.false in
    path_done (c.args.out.now.items ++ path_text (sink_path (sink_of c.args.reference.now))) c.loop-part.out.items
    (ap (λ ps. c.loop-part.out.items ++ parts_text (parts_of (map part_of ps))) (sym none) ∙ c.loop-part.invariant)
