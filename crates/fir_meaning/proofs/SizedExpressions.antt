-- Where an expression has a type, its sized type is that type without widths.
use Rattle.std.proofs.Common.{◌≡◌, List, [], ◌∷◌, Bool, Some, Ok, refl, sym, ap, ◌∙◌, subst}
use Rattle.fir_bits.specs.declared.types.NumTy.{NumTy}
use Rattle.fir_bits.specs.Forms.{first_type}
use Rattle.fir_ast.specs.declared.place.Place.{Place}
use Rattle.fir_ast.specs.Types.{DataType}
use Rattle.fir_ast.specs.Expressions.{Expression, reference, literal, operation, mux, validif, Expressions, no_expressions, expression}
use Rattle.fir_meaning.specs.TypeKinds.{bare}
use Rattle.fir_meaning.specs.ExpressionPlaces.{place_of}
use Rattle.fir_meaning.specs.Checked.{together}
use Rattle.fir_meaning.specs.OperationTypes.{is_conversion, operand_kind, operand_kinds, type_of_operation}
use Rattle.fir_meaning.specs.TypedScopes.{TypedScope}
use Rattle.fir_meaning.specs.ExpressionTypes.{number_data_type, type_of_mux, type_of_validif, condition_form, passive_form, expression_type, expression_types}
use Rattle.fir_meaning.specs.WidthExpressions.{known as known_width}
use Rattle.fir_meaning.specs.SizedTypes.{Sized, bare_type}
use Rattle.fir_meaning.specs.SizedOperations.{is_signed, width_in, first_sized, operation_width, greater_of}
use Rattle.fir_meaning.specs.SizedScopes.{SizedScope, literal_width, sized_type, sized_types}
use Rattle.fir_meaning.specs.working.WidthLaws.{SizedAsTyped}
use Rattle.fir_meaning.proofs.FoundForms.{after_has, joined_has, passive_has, mux_gives, validif_gives, operation_gives}
use Rattle.fir_meaning.proofs.SizedReferences.{GoesToParts, HoldsOfDeclared, Beside, reference_same, each_behind}
use Rattle.fir_meaning.proofs.SizedShapes.{numbered_bare, bare_again, renumbered_bare, greater_bare, guarded_bare, number_bare, result_bare, operand_signed, field_bare, element_bare}

-- the shapes are the same
abbrev pub SameShape : Sized → DataType → Type 0
SameShape s t = bare_type s ≡ bare t

shapes_to_parts : GoesToParts SameShape
shapes_to_parts = record { to_fields = field_bare; to_elements = element_bare }

shapes_declared : HoldsOfDeclared SameShape
shapes_declared = record { written = numbered_bare; anew = renumbered_bare }

-- without widths a mux is its first arm, and a validif its value
mux_bare : (p : Place) (u v : DataType) (both arms : DataType × DataType) (t : DataType) → (u, v) ≡ both → both ≡ arms → type_of_mux p arms ≡ Ok t
    → bare u ≡ bare t
mux_bare p u v both arms t e f h =
    let gives : t ≡ bare u = mux_gives p u v t (subst (λ (a : DataType × DataType). type_of_mux p a ≡ Ok t) (sym (e ∙ f)) h) in
    sym (bare_again u) ∙ ap bare (sym gives)

validif_bare : (p : Place) (u v t : DataType) → u ≡ v → type_of_validif p v ≡ Ok t → bare u ≡ bare t
validif_bare p u v t e h = rw e (sym (bare_again v) ∙ ap bare (sym (validif_gives p v t h)))

module _ (typed : TypedScope) (sized : SizedScope) (beside : Beside SameShape typed sized) where
  mutual
    pub type_bare : (e : Expression) (t : DataType) → (expression_type typed e).has ≡ Some t → bare_type (sized_type sized e) ≡ bare t
    type_bare (reference p n ps) t h = reference_same SameShape shapes_to_parts typed sized beside p n ps t h
    type_bare (literal l) t h =
        let same : number_data_type l.signed l.width ≡ t = cc in
        number_bare l.signed l.width (known_width (literal_width l)) ∙ ap bare same
    type_bare (operation p op es ks) t h =
        let a = after_has (expression_types typed es) (type_of_operation p op ks) t h in
        let o = operation_gives p op ks a.0 t a.2 in
        let same = first_signed (is_conversion op) es a.0 o.0 a.1 o.1 in
        result_bare op o.0 (is_signed (first_sized (sized_types sized es))) (operation_width op (sized_types sized es) ks) same ∙ ap bare (sym o.2)
    type_bare (mux p c a b) t h =
        let form_c = condition_form (place_of c) (expression_type typed c) in
        let form_a = passive_form (place_of a) (expression_type typed a) in
        let form_b = passive_form (place_of b) (expression_type typed b) in
        let arms = together (λ (u v : DataType). (u, v)) form_a form_b in
        let m = after_has (together (λ (u : DataType) (v : DataType × DataType). v) form_c arms) (type_of_mux p) t h in
        let j = joined_has (λ (u : DataType) (v : DataType × DataType). v) form_c.has arms.has m.0 m.1 in
        let i = joined_has (λ (u v : DataType). (u, v)) form_a.has form_b.has j.1 j.3 in
        let arm = type_bare a i.0 (passive_has typed a i.0 i.2) in
        let s = sized_type sized a in
        guarded_bare (width_in (sized_type sized c)) (greater_of s (sized_type sized b))
        ∙ (greater_bare s (sized_type sized b) ∙ (arm ∙ mux_bare p i.0 i.1 j.1 m.0 t i.4 j.4 m.2))
    type_bare (validif p c a) t h =
        let form_c = condition_form (place_of c) (expression_type typed c) in
        let form_a = passive_form (place_of a) (expression_type typed a) in
        let m = after_has (together (λ (u v : DataType). v) form_c form_a) (type_of_validif p) t h in
        let j = joined_has (λ (u v : DataType). v) form_c.has form_a.has m.0 m.1 in
        let arm = type_bare a j.1 (passive_has typed a j.1 j.3) in
        guarded_bare (width_in (sized_type sized c)) (sized_type sized a) ∙ (arm ∙ validif_bare p j.1 m.0 t j.4 m.2)

    first_signed : (resets : Bool) (es : Expressions) (ts : List DataType) (kinds : List NumTy) → (expression_types typed es).has ≡ Some ts
        → operand_kinds resets ts ≡ Some kinds → is_signed (first_sized (sized_types sized es)) ≡ (first_type kinds).signed
    first_signed resets no_expressions ts kinds h k =
        let none : ts ≡ [] = cc in
        let kindless : operand_kinds resets [] ≡ Some kinds = subst (λ us. operand_kinds resets us ≡ Some kinds) none k in
        let same : kinds ≡ [] = cc in
        rw same refl
    first_signed resets (expression e es) ts kinds h k =
        let j = joined_has (λ (u : DataType) (us : List DataType). u ∷ us) (expression_type typed e).has (expression_types typed es).has ts h in
        let here : operand_kinds resets (j.0 ∷ j.1) ≡ Some kinds = subst (λ us. operand_kinds resets us ≡ Some kinds) (sym j.4) k in
        let i = joined_has (λ (s : NumTy) (ss : List NumTy). s ∷ ss) (operand_kind resets j.0) (operand_kinds resets j.1) kinds here in
        operand_signed resets (sized_type sized e) j.0 i.0 (type_bare e j.0 j.2) i.2 ∙ ap (λ us. (first_type us).signed) i.4

pub sized_as_typed : SizedAsTyped
sized_as_typed = each_behind SameShape shapes_declared type_bare
