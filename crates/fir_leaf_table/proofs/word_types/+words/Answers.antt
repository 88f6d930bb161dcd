use Rattle.std.proofs.Common.{◌≡◌, suc, ◌++◌, None, length, ap, sym, ◌∙◌, arith}
use Rattle.fir_ast.specs.working.TypeViews.{type_of}
use Rattle.fir_meaning.specs.SizedTypes.{numbered}
use Rattle.fir_meaning.specs.HeldTypes.{held_types}
use Rattle.fir_leaf_table.specs.working.TypedLeaves.{types_seen}
use Rattle.fir_leaf_table.proofs.WordLeaves.{fields_done, fields_next, pushed_held, reset_held, vector_held, vector_view}
use Rattle.fir_leaf_table.proofs.word_types.+words.Goals as goal

pub put_fields-loop-field-preserved : goal.put_fields-loop-field-preserved
put_fields-loop-field-preserved t c = λ w.
    fields_next w c.args.types.now.items c.loop-field.types.items c.put_type.new.types.items c.args.fields.now c.loop-field.field-index
    c.field-item.result (c.loop-field.invariant w) c.loop-field-test.true c.field-item.is (c.in_ok-put_type.ensures w)

pub put_fields-returns : goal.put_fields-returns
put_fields-returns t c = λ w.
    fields_done w c.args.types.now.items c.loop-field.types.items c.args.fields.now c.loop-field.field-index (c.loop-field.invariant w)
    c.loop-field-test.false

pub put_type-returns-in_ok-repeat-in-Vector : goal.put_type-returns-in_ok-repeat-in-Vector
put_type-returns-in_ok-repeat-in-Vector t c = λ w.
    let before = c.args.types.now.items in
    let e = c.in-Vector.element in
    let n = c.in-Vector.length in
    let start : c.len-start.result ≡ length before = omega arith in
    let count : suc c.in-Some.others ≡ n = omega arith in
    vector_held w before c.put_type.new.types.items c.repeat.new.types.items c.len-start.result c.in-Some.others n (type_of e.value) start
    (c.in_ok-put_type-in-Vector.ensures w ∙ ap (λ ty. types_seen before ++ held_types w (numbered None (type_of ty))) c.deref-in-Some.ensures)
    c.in_ok-repeat-in-Vector.ensures count
    ∙ ap (λ ty. types_seen before ++ held_types w (numbered None ty)) (sym (ap type_of c.in-Vector.is ∙ vector_view e n))

pub put_type-returns-in_ok-push-in-Reset : goal.put_type-returns-in_ok-push-in-Reset
put_type-returns-in_ok-push-in-Reset t c = λ w.
    pushed_held w c.args.types.now.items c.push-in-Reset.new.self.items c.number_of_width-in-Reset.result _
    (held_types w (numbered None (type_of c.args.ty.now)))
    c.in_ok-push-in-Reset.ensures.items (c.number_of_width-in-Reset.ensures w) (reset_held w c.args.ty.now c.in-Reset.is)
