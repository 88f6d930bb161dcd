-- What a form of expressions that has a type is made of.
use Rattle.std.proofs.Common.{◌≡◌, ℕ, List, [], ◌∷◌, Bool, true, false, ◌&&◌, if◌then◌else◌, Option, Some, None, Result, Ok, Err, refl, ap, ◌∙◌}
use Rattle.fir_bits.specs.declared.operators.PrimOp.{PrimOp}
use Rattle.fir_bits.specs.declared.types.NumTy.{NumTy}
use Rattle.fir_bits.specs.Forms.{form_of, takes}
use Rattle.fir_ast.specs.declared.place.Place.{Place}
use Rattle.fir_ast.specs.Types.{DataType}
use Rattle.fir_ast.specs.Expressions.{Expression}
use Rattle.fir_ast.specs.Faults.{Fault}
use Rattle.fir_meaning.specs.TypeKinds.{bare, is_passive, is_numeric}
use Rattle.fir_meaning.specs.Equivalence.{is_equivalent}
use Rattle.fir_meaning.specs.ExpressionPlaces.{place_of}
use Rattle.fir_meaning.specs.KindFaults.{wrong_kinds, wrong_types, not_passive}
use Rattle.fir_meaning.specs.Checked.{Checked, answered, answer_on, after, joined}
use Rattle.fir_meaning.specs.OperationTypes.{is_conversion, operand_kinds, result_of, operation_on, type_of_operation}
use Rattle.fir_meaning.specs.TypedScopes.{TypedScope}
use Rattle.fir_meaning.specs.ExpressionTypes.{passive_at, type_of_mux, type_of_validif, passive_form, expression_type}

-- what a form that is something is made of
pub after_has : {A B : Type 0} → (c : Checked A) (own : A → Result B Fault) (y : B) → (after c own).has ≡ Some y → (x : A) × (c.has ≡ Some x) × (own x ≡ Ok y)
after_has {A = A} {B = B} c own y h = by c.has refl h
  where
    told : (x : A) (r : Result B Fault) → own x ≡ r → (answered r).has ≡ Some y → own x ≡ Ok y
    told x (Ok z) e k = let same : z ≡ y = cc in e ∙ ap Ok same
    told x (Err f) e k = cc

    by : (o : Option A) → c.has ≡ o → (answer_on o own).has ≡ Some y → (x : A) × (c.has ≡ Some x) × (own x ≡ Ok y)
    by None e k = cc
    by (Some x) e k = (x, e, told x (own x) refl k)

pub joined_has : {A B C : Type 0} → (f : A → B → C) (c : Option A) (d : Option B) (z : C) → joined f c d ≡ Some z
    → (x : A) × (y : B) × (c ≡ Some x) × (d ≡ Some y) × (f x y ≡ z)
joined_has f None d z h = cc
joined_has f (Some x) None z h = cc
joined_has f (Some x) (Some y) z h = let same : f x y ≡ z = cc in (x, y, refl, refl, same)

-- a test that is passed where there is an answer
pub granted : {A : Type 0} → (b : Bool) (r : Result A Fault) (f : Fault) (y : A) → (if b then r else Err f) ≡ Ok y → r ≡ Ok y
granted true r f y h = h
granted false r f y h = cc

pub passive_has : (scope : TypedScope) (e : Expression) (t : DataType) → (passive_form (place_of e) (expression_type scope e)).has ≡ Some t
    → (expression_type scope e).has ≡ Some t
passive_has scope e t h =
    let a = after_has (expression_type scope e) (passive_at (place_of e)) t h in
    let same : Ok a.0 ≡ Ok t = granted (is_passive a.0) (Ok a.0) (not_passive (place_of e) a.0) t a.2 in
    let is : a.0 ≡ t = cc in
    a.1 ∙ ap Some is

pub mux_gives : (p : Place) (u v t : DataType) → type_of_mux p (u, v) ≡ Ok t → t ≡ bare u
mux_gives p u v t h =
    let fit : Result DataType Fault = if is_equivalent u v then Ok (bare u) else Err (wrong_types p u v) in
    let one : fit ≡ Ok t = granted (is_numeric u && is_numeric v) fit (wrong_kinds p (u ∷ v ∷ [])) t h in
    let two : Ok (bare u) ≡ Ok t = granted (is_equivalent u v) (Ok (bare u)) (wrong_types p u v) t one in
    cc

pub validif_gives : (p : Place) (u t : DataType) → type_of_validif p u ≡ Ok t → t ≡ bare u
validif_gives p u t h = let one : Ok (bare u) ≡ Ok t = granted (is_numeric u) (Ok (bare u)) (wrong_kinds p (u ∷ [])) t h in cc

pub operation_gives : (p : Place) (op : PrimOp) (ks : List ℕ) (ts : List DataType) (t : DataType) → type_of_operation p op ks ts ≡ Ok t
    → (kinds : List NumTy) × (operand_kinds (is_conversion op) ts ≡ Some kinds) × (t ≡ result_of op kinds)
operation_gives p op ks ts t h = by (operand_kinds (is_conversion op) ts) refl h
  where
    by : (o : Option (List NumTy)) → operand_kinds (is_conversion op) ts ≡ o → operation_on p op ks ts o ≡ Ok t
        → (kinds : List NumTy) × (operand_kinds (is_conversion op) ts ≡ Some kinds) × (t ≡ result_of op kinds)
    by None e k = cc
    by (Some kinds) e k =
        let same : Ok (result_of op kinds) ≡ Ok t = granted (takes (form_of op) kinds ks) (Ok (result_of op kinds)) (wrong_kinds p ts) t k in
        let is : t ≡ result_of op kinds = cc in
        (kinds, e, is)
