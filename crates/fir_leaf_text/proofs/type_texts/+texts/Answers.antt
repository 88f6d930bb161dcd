use Rattle.std.proofs.Common.{◌≡◌, ◌++◌, length, ◌∙◌, arith}
use Rattle.fir_ast.specs.Types.{vector}
use Rattle.fir_meaning.specs.LeafPaths.{element, named, step_text}
use Rattle.fir_meaning.specs.TypeLeaves.{leaf_count}
use Rattle.fir_type_table.specs.working.Tables.{members_at, type_at, types_of}
use Rattle.fir_leaf_text.specs.working.TypePaths.{texts_behind, type_paths}
use Rattle.fir_leaf_text.proofs.TypeTexts.{cut_back, element_put, field_put, field_texts, fields_put, no_texts}
use Rattle.fir_leaf_text.proofs.type_texts.+texts.Goals as goal

pub push_type_texts-returns-then-leaves-eq0-clause-texts : goal.push_type_texts-returns-then-leaves-eq0-clause-texts
push_type_texts-returns-then-leaves-eq0-clause-texts t c =
    no_texts (type_at (types_of c.args.table.now) c.args.id.number) c.args.path.now.items c.args.texts.now.items c.leaves.result c.leaves.ensures
    c.if-leaves-eq0.true

pub push_field_texts-loop-name-preserved : goal.push_field_texts-loop-name-preserved
push_field_texts-loop-name-preserved t c =
    let ts = types_of c.args.table.now in
    let ms = members_at c.args.table.now c.args.id.number in
    let path = c.args.path.now.items in
    let so_far = c.loop-name in
    let name = c.in-Some.name.now in
    let mid = c.put_field.new.path.items in
    let is : mid ≡ path ++ step_text (named name) = rw so_far.invariant.stays at c.in_ok-put_field.ensures in
    let counted : c.len-before.result ≡ length path = omega (arith, c.len-before.ensures, c.args.path.now.ok.0) in
    let behind = c.in_ok-leaf.ensures in
    record {
      stays =
          c.truncate.ensures.items
          ∙ cut_back path mid c.push_type_texts.new.path.items (named name) c.len-before.result is c.in_ok-push_type_texts.ensures.path counted;
      small = behind.small;
      so_far =
          field_put ts ms path (c.args.texts.now.items ++ field_texts ts path ms) mid so_far.leaf c.in_ok-leaf.leaf name c.in-Some.ty
          c.in-Some.field-0-2 so_far.texts.items c.push_type_texts.new.texts.items c.in-Some.ensures.field
          (behind.is (leaf_count (type_at ts c.in-Some.ty.number)) c.leaves.ensures) is so_far.invariant.so_far c.in_ok-push_type_texts.ensures.texts;
    }

pub push_field_texts-returns-clause-texts : goal.push_field_texts-returns-clause-texts
push_field_texts-returns-clause-texts t c =
    let ts = types_of c.args.table.now in
    let ms = members_at c.args.table.now c.args.id.number in
    let path = c.args.path.now.items in
    fields_put ts ms path (c.args.texts.now.items ++ field_texts ts path ms) c.loop-name.leaf c.loop-name.texts.items c.in_default.ensures.field
    c.loop-name.invariant.so_far

pub push_element_texts-loop-index-preserved : goal.push_element_texts-loop-index-preserved
push_element_texts-loop-index-preserved t c =
    let one = type_at (types_of c.args.table.now) c.args.element.number in
    let n = c.args.length in
    let path = c.args.path.now.items in
    let i = c.loop-index.index in
    let mid = c.put_element.new.path.items in
    let is : mid ≡ path ++ step_text (element i) = rw c.loop-index.invariant.stays at c.in_ok-put_element.ensures in
    let counted : c.len-before.result ≡ length path = omega (arith, c.len-before.ensures, c.args.path.now.ok.0) in
    record {
      stays =
          c.truncate.ensures.items
          ∙ cut_back path mid c.push_type_texts.new.path.items (element i) c.len-before.result is c.in_ok-push_type_texts.ensures.path counted;
      left =
          element_put one n path mid i c.loop-index.texts.items c.push_type_texts.new.texts.items
          (c.args.texts.now.items ++ texts_behind path (type_paths (vector one n))) c.loop-index-test.true is c.loop-index.invariant.left
          c.in_ok-push_type_texts.ensures.texts;
    }
