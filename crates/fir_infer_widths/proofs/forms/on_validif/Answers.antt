use Rattle.std.proofs.Common.{◌≡◌, ◌++◌, ◌∙◌, false, sym, ap, subst}
use Rattle.std.proofs.lemmas.Result.{IfOk-weaker}
use Rattle.fir_ast.specs.Expressions.{validif}
use Rattle.fir_meaning.specs.SizedOperations.{width_in}
use Rattle.fir_meaning.specs.SizedScopes.{sized_type}
use Rattle.fir_meaning.specs.TypeKinds.{bare}
use Rattle.fir_meaning.specs.SizedTypes.{bare_type}
use Rattle.fir_types.specs.working.Seen.{found_type}
use Rattle.fir_types.specs.working.Notes.{expression_note}
use Rattle.fir_infer_widths.specs.declared.walk.Walk.{Walk}
use Rattle.fir_width.specs.working.FlatWidths.{flat, guarded_each}
use Rattle.fir_infer_widths.specs.working.Numbered.{Keeps}
use Rattle.fir_infer_widths.specs.working.Spots.{of_expression}
use Rattle.fir_infer_widths.specs.working.Walks.{types_in}
use Rattle.fir_infer_widths.proofs.ChosenForms.{Numbers, chosen_comes}
use Rattle.fir_infer_widths.proofs.ExpressionSpots.{validif_spot}
use Rattle.fir_infer_widths.proofs.FormSides.{guarded_side}
use Rattle.fir_infer_widths.proofs.OperationSides.{side_has}
use Rattle.fir_infer_widths.proofs.TypedShapes.{typed_shape, unsigned_scalar}
use Rattle.fir_infer_widths.proofs.forms.on_validif.Goals as goal

pub returns : goal.returns
returns c = λ tree typed sized chooses a t meant rules rest enters typed_as condition value.
    let scene = c.args.ground.now in
    let ts = types_in scene in
    let e = validif c.args.place chooses a in
    let s = sized_type sized a in
    let w = width_in (sized_type sized chooses) in
    let stays = c.pass_note.ensures.stays in
    let arena = ap (λ (x : Walk). x.arena) stays in
    let keeps = subst (Keeps meant rules) (sym arena) enters.keeps in
    let unsigned = unsigned_scalar (sized_type sized chooses) typed_as.0 (typed_shape meant scene.first_leaves.now typed sized enters.stand chooses _ typed_as.2) in
    let count = c.leaf_count-count.ensures meant rules s keeps value in
    let made = c.in_ok-first.ensures meant rules w (flat s) keeps (sym count) (side_has ts meant c.args.condition (sized_type sized chooses) condition unsigned) value.stands in
    let own = guarded_each w (flat s) in
    let shape : bare_type s ≡ bare (found_type ts c.args.value.found) = value.shape in
    let numbers : Numbers scene meant own rules rest c.args.walk.now _ = record {
      keeps = made.1;
      ahead = c.pass_note.ensures.ahead ts (expression_note typed e) rest enters.ahead;
      spots = ap (λ (x : Walk). x.spots) stays;
      declared = ap (λ (x : Walk). x.declared) stays;
    } in
    IfOk-weaker c.chosen.result _ _
    (λ side chosen.
    let is = guarded_side ts meant w s c.args.value.found side shape (chosen.first_number ∙ made.0) (chosen.data_type ts) in
    chosen_comes tree scene meant own rules rest (of_expression sized e) (sized_type sized e) c.args.place false c.args.value.found c.in_ok-first.first c.args.walk.now _ c.chosen.new.walk side numbers chosen
    is (validif_spot tree ts (meant ++ own) sized c.args.place chooses a side is))
    c.chosen.ensures
