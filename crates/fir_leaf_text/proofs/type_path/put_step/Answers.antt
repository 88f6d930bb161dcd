use Rattle.std.proofs.Common.{◌≡◌, ◌∙◌, ◌++◌, Some, ap, sym, arith}
use Rattle.std.specs.Prelude.{slice_get}
use Rattle.std.proofs.lemmas.Option.{none-some}
use Rattle.fir_ast.specs.Types.{vector}
use Rattle.fir_meaning.specs.LeafPaths.{element, step_text}
use Rattle.fir_type_table.specs.working.Tables.{members_at, type_at, types_of}
use Rattle.fir_leaf_text.specs.working.TypePaths.{type_paths}
use Rattle.fir_leaf_text.proofs.FieldsOfLeaves.{no_path, path_of_field}
use Rattle.fir_leaf_text.proofs.PathSteps.{in_element, in_field, no_element}
use Rattle.fir_leaf_text.proofs.type_path.put_step.Goals as goal

pub returns-then-leaves-eq0 : goal.returns-then-leaves-eq0
returns-then-leaves-eq0 c = λ path there.
    let one = type_at (types_of c.args.table.now) c.in-Vector.element.number in
    let is : slice_get (type_paths (vector one c.in-Vector.field-1)) c.args.leaf ≡ Some path =
    ap (λ t. slice_get (type_paths t) c.args.leaf) (sym c.in-Vector.ensures.made) ∙ there in
    absurd (no_element one c.in-Vector.field-1 c.args.leaf c.leaves-leaves.result path c.leaves-leaves.ensures c.if-leaves-eq0.true is)

pub returns-in_default-field_of_leaf : goal.returns-in_default-field_of_leaf
returns-in_default-field_of_leaf c = λ path there.
    let es = c.args.table.now in
    let none = no_path (types_of es) (members_at es c.args.id.number) c.args.leaf c.in_default-field_of_leaf.ensures.field in
    absurd (none-some path (sym none ∙ ap (λ t. slice_get (type_paths t) c.args.leaf) (sym c.in-Bundle.ensures.made) ∙ there))

pub returns-in_ok-put_field-in-Bundle : goal.returns-in_ok-put_field-in-Bundle
returns-in_ok-put_field-in-Bundle c =
    let es = c.args.table.now in
    let ts = types_of es in
    let name = c.in-Some.name.now in
    let id = c.in-Some.ty in
    let inside = c.in-Some.inside in
    let lies = c.in-Some.ensures.field in (
      c.in-Some.ensures.below,
      omega (arith, lies.counted, c.requires),
      λ path there.
          in_field ts name id inside c.args.path.now.items c.put_field.new.path.items path
          (sym (path_of_field ts (members_at es c.args.id.number) c.args.leaf name id inside lies)
          ∙ ap (λ t. slice_get (type_paths t) c.args.leaf) (sym c.in-Bundle.ensures.made) ∙ there)
          c.in_ok-put_field-in-Bundle.ensures,
    )

pub returns-in_ok-put_element-in-Vector : goal.returns-in_ok-put_element-in-Vector
returns-in_ok-put_element-in-Vector c = (
  c.in-Vector.ensures.below,
  omega arith,
  λ path there.
      in_element (type_at (types_of c.args.table.now) c.in-Vector.element.number) c.in-Vector.field-1 c.args.leaf c.leaves-leaves.result c.requires
      c.leaves-leaves.ensures c.if-leaves-eq0.false c.args.path.now.items c.put_element.new.path.items path
      (ap (λ t. slice_get (type_paths t) c.args.leaf) (sym c.in-Vector.ensures.made) ∙ there)
      (c.in_ok-put_element-in-Vector.ensures ∙ ap (λ k. c.args.path.now.items ++ step_text (element k)) c.from.ensures),
)
