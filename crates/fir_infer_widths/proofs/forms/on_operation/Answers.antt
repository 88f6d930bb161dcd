use Rattle.std.proofs.Common.{[], ◌∷◌, ◌++◌, ◌∙◌, sym, ap, subst}
use Rattle.fir_ast.specs.Expressions.{operation}
use Rattle.fir_meaning.specs.SizedOperations.{first_sized, operation_width}
use Rattle.fir_meaning.specs.SizedScopes.{sized_type, sized_types}
use Rattle.fir_types.specs.working.Notes.{expression_note}
use Rattle.fir_infer_widths.specs.declared.spot.Spot.TheVariants as code
use Rattle.fir_infer_widths.specs.declared.walk.Walk.{Walk}
use Rattle.fir_infer_widths.specs.working.Numbered.{Keeps}
use Rattle.fir_width.specs.working.StandingWidths.{Has}
use Rattle.fir_infer_widths.specs.working.Spots.{of_expression}
use Rattle.fir_infer_widths.specs.working.Walks.{types_in}
use Rattle.fir_infer_widths.proofs.Coming.{come_made}
use Rattle.fir_infer_widths.proofs.ExpressionSpots.{operation_spot}
use Rattle.fir_infer_widths.proofs.FormSides.{next_has, scalar_side}
use Rattle.fir_infer_widths.proofs.OperationSides.{operands_read}
use Rattle.fir_width.proofs.StandingWidths.{has_more}
use Rattle.fir_infer_widths.proofs.forms.on_operation.Goals as goal

pub returns : goal.returns
returns c = λ tree typed sized es t meant rules rest enters typed_as sides.
    let scene = c.args.ground.now in
    let op = c.args.op in
    let ks = c.args.integers in
    let e = operation c.args.place op es ks.now in
    let ss = sized_types sized es in
    let w = operation_width op ss ks.now in
    let stays = c.pass_note.ensures.stays in
    let arena = ap (λ (x : Walk). x.arena) stays in
    let read = operands_read meant scene.first_leaves.now typed sized enters.stand (types_in scene) c.args.place op es ks.now t c.args.operands.now typed_as sides in
    let one = c.first_operand-one.ensures read.one read.others read.are in
    let signed = c.is_signed-signed.ensures (first_sized ss) (rw one read.shape) in
    let made = c.in_ok-first.ensures meant rules w (subst (Keeps meant rules) (sym arena) enters.keeps) (c.operation_term-term.ensures meant ss read.have signed) in
    let number = c.in_ok-first.first in
    let has = next_has meant w number made.0 in
    let operand : Has meant c.first_operand-one.result.first _ = rw one read.has in
    let spots = c.in_ok-put_spot.ensures ∙ ap (λ (x : Walk). x.spots.items ++ code.Operation c.args.place op ks c.first_operand-one.result.first number ∷ []) stays in
    come_made tree scene meant (w ∷ []) rules rest (code.Operation c.args.place op ks c.first_operand-one.result.first number) (of_expression sized e) (sized_type sized e) c.args.walk.now _ _
    made.1 (c.pass_note.ensures.ahead (types_in scene) (expression_note typed e) rest enters.ahead) spots (ap (λ (x : Walk). x.declared) stays)
    (scalar_side (types_in scene) (meant ++ w ∷ []) c.result_found.result number _ w has (rw (← signed) (c.result_found.ensures (types_in scene) w)))
    (operation_spot tree (types_in scene) (meant ++ w ∷ []) sized c.args.place op es ks c.first_operand-one.result.first number (has_more meant (w ∷ []) c.first_operand-one.result.first _ operand) has)
