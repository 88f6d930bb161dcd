use Rattle.std.proofs.Common.{◌≡◌, ◌+◌, length, refl, ap, ◌∙◌, arith}
use Rattle.fir_ast.specs.working.TypeViews.{type_of}
use Rattle.fir_meaning.specs.LeafPaths.{element, named}
use Rattle.fir_meaning.specs.SharedLeaves.{shared_count}
use Rattle.fir_type_table.proofs.WantedPaths.{found_here, passed_over, kept_behind}
use Rattle.fir_infer_widths.specs.working.FirstLeaves.{first_where, leaf_says_over}
use Rattle.fir_infer_widths.specs.working.NumberedLeaves.{numbered_leaves}
use Rattle.fir_infer_widths.proofs.FieldsLeft.{fields_from, next_field, vector_view}
use Rattle.fir_infer_widths.proofs.FirstFields.{unnumbered}
use Rattle.fir_infer_widths.proofs.FirstLeaves.{where_under, where_in_first}
use Rattle.fir_infer_widths.proofs.first_written_over.+written.Goals as goal

pub find_in_fields-returns-then-branch : goal.find_in_fields-returns-then-branch
find_in_fields-returns-then-branch t c =
    let next = next_field leaf_says_over c.args.fields.now c.loop-field.field-index 0 c.field-item.result _ c.loop-field.invariant.left c.loop-field-test.true
    c.field-item.is in
    found_here c.args.path.now.items c.loop-field.path.items c.find_in_field.new.path.items c.in_ok-find_in_field.field-0 _ _ _
    c.loop-field.invariant.path_is c.if-branch.true next c.in_ok-find_in_field.ensures

pub find_in_fields-loop-field-preserved : goal.find_in_fields-loop-field-preserved
find_in_fields-loop-field-preserved t c =
    let fields = c.args.fields.now in
    let i = c.loop-field.field-index in
    let f = c.field-item.result in
    let next = next_field leaf_says_over fields i 0 f _ c.loop-field.invariant.left c.loop-field-test.true c.field-item.is in
    let passed = passed_over c.args.path.now.items c.loop-field.path.items c.find_in_field.new.path.items c.in_ok-find_in_field.field-0 _ _ _
    c.loop-field.invariant.path_is c.if-branch.false next c.in_ok-find_in_field.ensures in
    record { path_is = passed.0; left = passed.1 ∙ unnumbered leaf_says_over (λ l n. refl) (0 + shared_count (type_of f.ty)) 0 (fields_from fields (i + 1)) }

pub find_in_field-returns : goal.find_in_field-returns
find_in_field-returns t c =
    let f = c.args.field.now in
    let leaves = numbered_leaves 0 (type_of f.ty) in
    let counted : c.len-before.result ≡ length c.args.path.now.items = omega (arith, c.args.path.now.ok.0, c.len-before.ensures) in
    kept_behind c.args.path.now.items c.put_field.new.path.items c.find_leaf.new.path.items c.kept.new.path.items c.len-before.result c.in_ok-found.found
    c.kept.result (named f.name) (first_where leaf_says_over leaves) _ counted c.in_ok-put_field.ensures c.in_ok-found.ensures c.kept.ensures.same
    c.kept.ensures.path (where_under leaf_says_over f.flip (named f.name) leaves)

pub find_leaf-returns-in_ok-found-in-Vector : goal.find_leaf-returns-in_ok-found-in-Vector
find_leaf-returns-in_ok-found-in-Vector t c =
    let leaves = numbered_leaves 0 (type_of c.in-Vector.element.value) in
    let found = ap (λ ty. first_where leaf_says_over (numbered_leaves 0 (type_of ty))) c.in-Vector.is
    ∙ ap (λ u. first_where leaf_says_over (numbered_leaves 0 u)) (vector_view c.in-Vector.element c.in-Vector.length)
    ∙ where_in_first leaf_says_over c.in-Vector.length leaves c.if-length-eq0.false in
    let counted : c.len-before.result ≡ length c.args.path.now.items = omega (arith, c.args.path.now.ok.0, c.len-before.ensures) in
    kept_behind c.args.path.now.items c.put_element.new.path.items c.find_leaf.new.path.items c.kept.new.path.items c.len-before.result
    c.in_ok-found-in-Vector.found c.kept.result (element 0) (first_where leaf_says_over leaves) _ counted c.in_ok-put_element-in-Vector.ensures
    (rw c.deref-in-Vector.ensures at c.in_ok-found-in-Vector.ensures) c.kept.ensures.same c.kept.ensures.path found
