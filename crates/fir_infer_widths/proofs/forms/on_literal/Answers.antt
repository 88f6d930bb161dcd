use Rattle.std.proofs.Common.{[], ◌∷◌, ◌++◌, ◌∙◌, sym, ap, subst}
use Rattle.fir_ast.specs.Expressions.{literal}
use Rattle.fir_meaning.specs.SizedScopes.{literal_width, sized_type}
use Rattle.fir_meaning.specs.WidthExpressions.{known}
use Rattle.fir_types.specs.working.Notes.{expression_note}
use Rattle.fir_infer_widths.specs.declared.spot.Spot.TheVariants as code
use Rattle.fir_infer_widths.specs.declared.walk.Walk.{Walk}
use Rattle.fir_infer_widths.specs.working.Numbered.{Keeps}
use Rattle.fir_infer_widths.specs.working.Spots.{of_expression}
use Rattle.fir_infer_widths.specs.working.Walks.{types_in}
use Rattle.fir_infer_widths.proofs.Coming.{come_made}
use Rattle.fir_infer_widths.proofs.ExpressionSpots.{literal_spot}
use Rattle.fir_infer_widths.proofs.FormSides.{literal_side, next_has}
use Rattle.fir_infer_widths.proofs.forms.on_literal.Goals as goal

pub returns : goal.returns
returns c = λ tree scene typed sized meant rules rest enters.
    let l = c.args.literal.now in
    let w = known (literal_width l) in
    let stays = c.pass_note.ensures.stays in
    let arena = ap (λ (x : Walk). x.arena) stays in
    let made = c.in_ok-first.ensures meant rules (subst (Keeps meant rules) (sym arena) enters.keeps) in
    let keeps = rw c.literal_width.ensures at made.1 in
    let has = next_has meant w c.in_ok-first.first made.0 in
    let spots = c.in_ok-put_spot.ensures ∙ ap (λ (x : Walk). x.spots.items ++ code.Literal c.args.literal c.in_ok-first.first ∷ []) stays in
    come_made tree scene meant (w ∷ []) rules rest (code.Literal c.args.literal c.in_ok-first.first) (of_expression sized (literal l)) (sized_type sized (literal l)) c.args.walk.now _ _
    keeps (c.pass_note.ensures.ahead (types_in scene) (expression_note typed (literal l)) rest enters.ahead) spots (ap (λ (x : Walk). x.declared) stays)
    (literal_side (types_in scene) (meant ++ w ∷ []) sized l c.in_ok-first.first has)
    (literal_spot tree (types_in scene) (meant ++ w ∷ []) sized c.args.literal c.in_ok-first.first has)
