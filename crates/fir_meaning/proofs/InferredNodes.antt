-- The node of an expression has the leaves of the expression's type, without the widths that are found anew.
use Rattle.std.proofs.Common.{◌≡◌, [], ◌∷◌, Some}
use Rattle.fir_ast.specs.Types.{DataType}
use Rattle.fir_ast.specs.Expressions.{Expression, reference, literal, operation, mux, validif}
use Rattle.fir_meaning.specs.ExpressionPlaces.{place_of}
use Rattle.fir_meaning.specs.Checked.{together}
use Rattle.fir_meaning.specs.TypedScopes.{TypedScope}
use Rattle.fir_meaning.specs.ExpressionTypes.{type_of_mux, type_of_validif, condition_form, passive_form, expression_type}
use Rattle.fir_meaning.specs.WidthExpressions.{known as known_width}
use Rattle.fir_meaning.specs.SizedOperations.{number_scalar, result_scalar, is_signed, width_in, first_sized, operation_width, greater_of}
use Rattle.fir_meaning.specs.SizedScopes.{SizedScope, literal_width, sized_type, sized_types}
use Rattle.fir_meaning.specs.SizedDeclarations.{numbered_behind}
use Rattle.fir_meaning.specs.working.WidthLaws.{NodesAsInferred}
use Rattle.fir_meaning.proofs.FoundForms.{after_has, mux_gives, validif_gives}
use Rattle.fir_meaning.proofs.SizedReferences.{Beside, reference_same, each_behind}
use Rattle.fir_meaning.proofs.SizedExpressions.{SameShape, type_bare}
use Rattle.fir_meaning.proofs.NodeShapes.{SameNode, with_numbers, node_shape, scalar_node, guarded_node, nodes_to_parts, nodes_declared}

beside_shapes : (typed : TypedScope) (sized : SizedScope) → Beside SameNode typed sized → Beside SameShape typed sized
beside_shapes [] [] h = tt
beside_shapes (k ∷ typed) (s ∷ sized) h =
    (record { name = h.0.name; same = λ t e. node_shape s.sized t (h.0.same t e) }, beside_shapes typed sized h.1)
beside_shapes [] (s ∷ sized) h = absurd h
beside_shapes (k ∷ typed) [] h = absurd h

type_node : (typed : TypedScope) (sized : SizedScope) → Beside SameNode typed sized → (e : Expression) (t : DataType) → (expression_type typed e).has ≡ Some t
    → SameNode (sized_type sized e) t
type_node typed sized beside (reference p n ps) t h = reference_same SameNode nodes_to_parts typed sized beside p n ps t h
type_node typed sized beside (literal l) t h =
    scalar_node (number_scalar l.signed) (known_width (literal_width l)) t (type_bare typed sized (beside_shapes typed sized beside) (literal l) t h)
type_node typed sized beside (operation p op es ks) t h =
    scalar_node (result_scalar op (is_signed (first_sized (sized_types sized es)))) (operation_width op (sized_types sized es) ks) t
    (type_bare typed sized (beside_shapes typed sized beside) (operation p op es ks) t h)
type_node typed sized beside (mux p c a b) t h =
    let form_c = condition_form (place_of c) (expression_type typed c) in
    let form_a = passive_form (place_of a) (expression_type typed a) in
    let form_b = passive_form (place_of b) (expression_type typed b) in
    let arms = together (λ (u v : DataType). (u, v)) form_a form_b in
    let m = after_has (together (λ (u : DataType) (v : DataType × DataType). v) form_c arms) (type_of_mux p) t h in
    guarded_node (width_in (sized_type sized c)) (greater_of (sized_type sized a) (sized_type sized b)) m.0.0 t
    (type_bare typed sized (beside_shapes typed sized beside) (mux p c a b) t h) (mux_gives p m.0.0 m.0.1 t m.2)
type_node typed sized beside (validif p c a) t h =
    let form_c = condition_form (place_of c) (expression_type typed c) in
    let m = after_has (together (λ (u v : DataType). v) form_c (passive_form (place_of a) (expression_type typed a))) (type_of_validif p) t h in
    guarded_node (width_in (sized_type sized c)) (sized_type sized a) m.0 t
    (type_bare typed sized (beside_shapes typed sized beside) (validif p c a) t h) (validif_gives p m.0 t m.2)

pub nodes_as_inferred : NodesAsInferred
nodes_as_inferred modules numbers ds e t none h k =
    let s = sized_type (numbered_behind modules numbers ds).scope e in
    with_numbers s t (each_behind SameNode nodes_declared type_node modules numbers ds e t none h) (Some k)
