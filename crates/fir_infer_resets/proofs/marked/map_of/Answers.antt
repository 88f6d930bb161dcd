use Rattle.std.proofs.Common.{Some, length, false, ap, ◌∙◌}
use Rattle.std.proofs.lemmas.Option.{slice_get-get_or, slice_get_read}
use Rattle.fir_ast.specs.working.Views.{circuit_of}
use Rattle.fir_infer_resets.proofs.FirstMarks.{first_all, first_none, first_passed, first_set}
use Rattle.fir_infer_resets.proofs.marked.map_of.Goals as goal
use Rattle.fir_infer_resets.proofs.marked.map_of.Goals.{then-marked+in_ok-set_end, else-marked}

pub loop-place-init : goal.loop-place-init
loop-place-init c = first_none (circuit_of c.args.named.now) c.args.ends.now c.args.marks.now c.new-found.result.items c.new-found.ensures.items

pub loop-place-preserved : goal.loop-place-preserved
loop-place-preserved c =
    let tree = circuit_of c.args.named.now in
    let ends = c.args.ends.now in
    let marks = c.args.marks.now in
    let n = c.loop-place.place in
    let mark = slice_get-get_or marks n false c.loop-place-test.true in
    elim c.if-marked.branch [
      | then-marked+in_ok-set_end w ↦
          rw w.found-is
          (first_set tree ends marks c.loop-place.found.items w.set_end.new.found.items n w.index-ends-place.result
          (slice_get_read ends (length marks) n w.index-ends-place.result c.requires.long c.loop-place-test.true w.index-ends-place.is)
          (mark ∙ ap Some w.if-marked.true) w.in_ok-set_end.ensures c.loop-place.invariant)
      | else-marked w ↦
          rw w.found-is (first_passed tree ends marks c.loop-place.found.items n (mark ∙ ap Some w.if-marked.false) c.loop-place.invariant)
    ]

pub returns : goal.returns
returns c =
    rw c.new.ensures
    (first_all (circuit_of c.args.named.now) c.args.ends.now c.args.marks.now c.loop-place.found.items c.loop-place.place c.loop-place-test.false c.loop-place.invariant)
