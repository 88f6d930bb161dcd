use Rattle.std.proofs.Common.{◌≡◌, ◌++◌, ◌∙◌, append_assoc, true, sym, ap, subst}
use Rattle.std.proofs.lemmas.Result.{IfOk-weaker}
use Rattle.fir_ast.specs.Expressions.{mux}
use Rattle.fir_meaning.specs.TypeKinds.{bare}
use Rattle.fir_meaning.specs.SizedOperations.{greater_of, width_in}
use Rattle.fir_meaning.specs.SizedScopes.{sized_type}
use Rattle.fir_meaning.specs.SizedTypes.{bare_type}
use Rattle.fir_meaning.proofs.SizedShapes.{greater_bare}
use Rattle.fir_types.specs.working.Notes.{expression_note}
use Rattle.fir_types.specs.working.Seen.{found_type}
use Rattle.fir_infer_widths.specs.declared.walk.Walk.{Walk}
use Rattle.fir_width.specs.working.FlatWidths.{flat, greater_each, guarded_each}
use Rattle.fir_infer_widths.specs.working.Numbered.{Keeps}
use Rattle.fir_width.specs.working.StandingWidths.{Stands}
use Rattle.fir_width.specs.working.Sides.{IsSide}
use Rattle.fir_infer_widths.specs.working.Spots.{of_expression}
use Rattle.fir_infer_widths.specs.working.Walks.{types_in}
use Rattle.fir_infer_widths.proofs.ChosenForms.{Numbers, chosen_comes}
use Rattle.fir_infer_widths.proofs.ExpressionSpots.{mux_spot}
use Rattle.fir_infer_widths.proofs.FlatForms.{alike_counted, arms_alike, flat_greater, greater_counted}
use Rattle.fir_infer_widths.proofs.FormSides.{guarded_side}
use Rattle.fir_infer_widths.proofs.OperationSides.{side_has}
use Rattle.fir_width.proofs.StandingWidths.{has_more, stands_pushed}
use Rattle.fir_infer_widths.proofs.TypedShapes.{typed_shape, unsigned_scalar}
use Rattle.fir_infer_widths.proofs.forms.on_mux.Goals as goal

pub returns : goal.returns
returns c = λ tree typed sized chooses a b t meant rules rest enters typed_as condition one other.
    let scene = c.args.ground.now in
    let ts = types_in scene in
    let e = mux c.args.place chooses a b in
    let s = sized_type sized a in
    let u = sized_type sized b in
    let w = width_in (sized_type sized chooses) in
    let firsts = scene.first_leaves.now in
    let stays = c.pass_note.ensures.stays in
    let arena = ap (λ (x : Walk). x.arena) stays in
    let keeps = subst (Keeps meant rules) (sym arena) enters.keeps in
    let unsigned = unsigned_scalar (sized_type sized chooses) typed_as.0 (typed_shape meant firsts typed sized enters.stand chooses _ typed_as.3) in
    let alike =
    arms_alike s u typed_as.1 typed_as.2 (typed_shape meant firsts typed sized enters.stand a typed_as.1 typed_as.4) (typed_shape meant firsts typed sized enters.stand b typed_as.2 typed_as.7) typed_as.10 in
    let count = c.leaf_count-count.ensures meant rules s keeps one in
    let greater = greater_each (flat s) (flat u) in
    let same = alike_counted s u alike in
    let made = c.in_ok-greater.ensures meant rules (flat s) (flat u) keeps (sym count) (sym same ∙ sym count) one.stands other.stands in
    let before = meant ++ greater in
    let flat_is = flat_greater s u alike in
    let stands : Stands before c.in_ok-greater.greater greater = rw made.0 (stands_pushed meant greater) in
    let has = has_more meant greater c.args.condition.first w (side_has ts meant c.args.condition (sized_type sized chooses) condition unsigned) in
    let guards = c.in_ok-first.ensures before rules w greater made.1 (greater_counted (flat s) (flat u) same ∙ sym count) has stands in
    let own = greater ++ guarded_each w greater in
    let all = append_assoc meant greater (guarded_each w greater) in
    let shape : bare_type (greater_of s u) ≡ bare (found_type ts c.args.one.found) = greater_bare s u ∙ one.shape in
    let numbers : Numbers scene meant own rules rest c.args.walk.now _ = record {
      keeps = rw (sym all) guards.1;
      ahead = c.pass_note.ensures.ahead ts (expression_note typed e) rest enters.ahead;
      spots = ap (λ (x : Walk). x.spots) stays;
      declared = ap (λ (x : Walk). x.declared) stays;
    } in
    IfOk-weaker c.chosen.result _ _
    (λ side chosen.
    let here = guarded_side ts before w (greater_of s u) c.args.one.found side shape (chosen.first_number ∙ guards.0) (chosen.data_type ts) in
    let is : IsSide ts (meant ++ own) side (sized_type sized e) = rw (sym all) (rw flat_is at here) in
    chosen_comes tree scene meant own rules rest (of_expression sized e) (sized_type sized e) c.args.place true c.args.one.found c.in_ok-first.first c.args.walk.now _ c.chosen.new.walk side numbers chosen
    is (mux_spot tree ts (meant ++ own) sized c.args.place chooses a b side is))
    c.chosen.ensures
