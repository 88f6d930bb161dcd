use Rattle.std.proofs.Common.{sym, ap, ◌∙◌}
use Rattle.std.proofs.lemmas.List.{append-nil}
use Rattle.fir_ast.proofs.Fields.{bundle_first, bundle_next, field_written}
use Rattle.fir_fault_text.proofs.type_text.+type_text.Goals as goal
use Rattle.fir_fault_text.proofs.type_text.+type_text.Goals.{put_fields-then-i-gt0+in_ok-put_word, put_fields-else-i-gt0}

pub put_fields-loop-i-preserved : goal.put_fields-loop-i-preserved
put_fields-loop-i-preserved t c =
    let label = rw c.as_bytes.ensures at c.in_ok-put_label.ensures in
    elim c.if-i-gt0.branch [
      | put_fields-then-i-gt0+in_ok-put_word w ↦
          let more = bundle_next c.args.fields.now c.loop-i.i c.index-fields-i.result c.loop-i-test.true w.if-i-gt0.true c.index-fields-i.is in
          field_written _ _ _ _ _ _ _ _ _ _ c.loop-i.invariant (ap (λ v. v.items) w.out-is ∙ w.in_ok-put_word.ensures) label c.in_ok-put_type.ensures more
      | put_fields-else-i-gt0 w ↦
          let more = bundle_first c.args.fields.now c.loop-i.i c.index-fields-i.result c.loop-i-test.true w.if-i-gt0.false c.index-fields-i.is in
          field_written _ _ _ _ _ _ _ _ _ _ c.loop-i.invariant (ap (λ v. v.items) w.out-is ∙ sym (append-nil _)) label c.in_ok-put_type.ensures more
    ]
