-- Where the types of a scope have words, so have those of all expressions in it, and of all that references reach.
use Rattle.std.proofs.Common.{ℕ, List, [], ◌∷◌, Bool, true, false, Option, Some, None, Ok, Err}
use Rattle.std.specs.Prelude.{IsTrue, IfSome, IfOk, nat_lt, ◌&&◌, if◌then◌else◌}
use Rattle.std.specs.Str.{bytes_eq}
use Rattle.std.specs.List.{AllByRecursion}
use Rattle.std.proofs.lemmas.Bool.{cond_both}
use Rattle.fir_bits.specs.declared.operators.PrimOp.{PrimOp}
use Rattle.fir_bits.specs.declared.operators.PrimOp.TheVariants.{AsAsyncReset}
use Rattle.fir_bits.specs.declared.types.NumTy.{NumTy}
use Rattle.fir_bits.specs.Forms.{form_of, takes, first_type}
use Rattle.fir_bits.specs.Types.{signed_of}
use Rattle.fir_ast.specs.declared.place.Place.{Place}
use Rattle.fir_ast.specs.Types.{DataType}
use Rattle.fir_ast.specs.Expressions.{Expression, reference, literal, operation, mux, validif, Parts, no_parts, subfield, subindex, subaccess}
use Rattle.ver_words.specs.Names.{is_word}
use Rattle.fir_meaning.specs.TypeKinds.{FieldFound, is_passive, is_numeric, bare}
use Rattle.fir_meaning.specs.Equivalence.{is_equivalent}
use Rattle.fir_meaning.specs.ExpressionPlaces.{place_of}
use Rattle.fir_meaning.specs.KindFaults.{wrong_kinds, wrong_types, not_passive, out_of_range}
use Rattle.fir_meaning.specs.Checked.{Checked, joined}
use Rattle.fir_meaning.specs.OperationTypes.{operand_kinds, operation_on, result_of, ground_of, is_conversion, type_of_operation}
use Rattle.fir_meaning.specs.TypedScopes.{Known, TypedScope, known}
use Rattle.fir_meaning.specs.Reaching.{Reached, at_element, any_element, element_at, field_of_type, known_reached, reached_field, root, to_any, to_field, to_index, vector_of_type}
use Rattle.fir_meaning.specs.ExpressionTypes.{number_data_type, passive_at, type_of_mux, type_of_validif, condition_form, passive_form, mux_form, validif_form, field_form, index_form, access_form, expression_type, expression_types, along_parts}
use Rattle.fir_flatten.specs.working.Words.{TypeHasWords}
use Rattle.fir_flatten.proofs.TypeWords.{bare_words, field_has_words, element_has_words}
use Rattle.fir_flatten.proofs.HeldForms.{mapped_holds, after_holds, left_holds, right_holds, ok_either}

pub record KnownHasWords (k : Known) : Type 0 where
  pub name : IsTrue (is_word k.name)
  pub data_type : IfSome k.data_type TypeHasWords

abbrev ReachedHasWords : Reached → Type 0
ReachedHasWords r = TypeHasWords r.data_type

abbrev ArmHasWords : DataType × DataType → Type 0
ArmHasWords arms = TypeHasWords arms.0

-- a reference, part by part
field_reached : (p : Place) (x : List ℕ) (r : Reached) (o : Option FieldFound) → IfSome o (λ f. TypeHasWords f.data_type)
    → IfOk (reached_field p x r o) ReachedHasWords
field_reached p x r None h = tt
field_reached p x r (Some f) h = h

element_reached : (p : Place) (i : ℕ) (r : Reached) (o : Option (DataType × ℕ)) → IfSome o (λ v. TypeHasWords v.0)
    → IfOk (element_at p i r o) ReachedHasWords
element_reached p i r None h = tt
element_reached p i r (Some v) h = ok_either ReachedHasWords (nat_lt i v.1) (Ok (at_element i r v.0)) (Err (out_of_range p i v.1)) h tt

any_reached : (p : Place) (r : Reached) (o : Option (DataType × ℕ)) → IfSome o (λ v. TypeHasWords v.0) → IfOk (any_element p r o) ReachedHasWords
any_reached p r None h = tt
any_reached p r (Some v) h = h

known_words : (scope : TypedScope) (name : List ℕ) → AllByRecursion KnownHasWords scope → IfSome (known_reached (known scope name)) ReachedHasWords
known_words [] name all = tt
known_words (k ∷ ks) name all =
    cond_both (bytes_eq k.name name) (Some k) (known ks name) (λ (o : Option Known). IfSome (known_reached o) ReachedHasWords)
    (λ e. mapped_holds TypeHasWords ReachedHasWords _ k.data_type all.0.data_type (λ t h. h)) (λ e. known_words ks name all.1)

along_words : (scope : TypedScope) (p : Place) (ps : Parts) (c : Checked Reached) → IfSome c.has ReachedHasWords
    → IfSome (along_parts scope p c ps).has ReachedHasWords
along_words scope p no_parts c h = h
along_words scope p (subfield first q x rest) c h =
    along_words scope p rest (field_form p x c)
    (after_holds ReachedHasWords ReachedHasWords (to_field p x) c.has h
    (λ r k. field_reached p x r (field_of_type x r.data_type) (field_has_words x r.data_type k)))
along_words scope p (subindex first q i rest) c h =
    along_words scope p rest (index_form p i c)
    (after_holds ReachedHasWords ReachedHasWords (to_index p i) c.has h
    (λ r k. element_reached p i r (vector_of_type r.data_type) (element_has_words r.data_type k)))
along_words scope p (subaccess first e rest) c h =
    let index = condition_form (place_of e) (expression_type scope e) in
    along_words scope p rest (access_form p c index)
    (after_holds ReachedHasWords ReachedHasWords (to_any p) (joined (λ r t. r) c.has index.has)
    (left_holds ReachedHasWords ReachedHasWords (λ r t. r) c.has index.has h (λ r t k. k))
    (λ r k. any_reached p r (vector_of_type r.data_type) (element_has_words r.data_type k)))

-- the other forms
number_words : (signed : Bool) (width : Option ℕ) → TypeHasWords (number_data_type signed width)
number_words true width = tt
number_words false width = tt

result_words : (op : PrimOp) (kinds : List NumTy) → TypeHasWords (result_of op kinds)
result_words AsAsyncReset kinds = tt
result_words op kinds = of_sign (signed_of op (first_type kinds).signed)
  where
    of_sign : (signed : Bool) → TypeHasWords (ground_of signed)
    of_sign true = tt
    of_sign false = tt

operation_words : (p : Place) (op : PrimOp) (integers : List ℕ) (ts : List DataType) (o : Option (List NumTy))
    → IfOk (operation_on p op integers ts o) TypeHasWords
operation_words p op integers ts None = tt
operation_words p op integers ts (Some kinds) =
    ok_either TypeHasWords (takes (form_of op) kinds integers) (Ok (result_of op kinds)) (Err (wrong_kinds p ts)) (result_words op kinds) tt

passive_words : (p : Place) (c : Checked DataType) → IfSome c.has TypeHasWords → IfSome (passive_form p c).has TypeHasWords
passive_words p c h =
    after_holds TypeHasWords TypeHasWords (passive_at p) c.has h
    (λ t k. ok_either TypeHasWords (is_passive t) (Ok t) (Err (not_passive p t)) k tt)

mux_words : (p : Place) (c a b : Checked DataType) → IfSome a.has TypeHasWords → IfSome (mux_form p c a b).has TypeHasWords
mux_words p c a b h =
    let arms = joined (λ t u. (t, u)) a.has b.has in
    after_holds ArmHasWords TypeHasWords (type_of_mux p) (joined (λ t arms. arms) c.has arms)
    (right_holds ArmHasWords ArmHasWords (λ t arms. arms) c.has arms
    (left_holds TypeHasWords ArmHasWords (λ t u. (t, u)) a.has b.has h (λ t u k. k)) (λ t arms k. k))
    (λ arms k.
    ok_either TypeHasWords (is_numeric arms.0 && is_numeric arms.1)
    (if is_equivalent arms.0 arms.1 then Ok (bare arms.0) else Err (wrong_types p arms.0 arms.1)) (Err (wrong_kinds p (arms.0 ∷ arms.1 ∷ [])))
    (ok_either TypeHasWords (is_equivalent arms.0 arms.1) (Ok (bare arms.0)) (Err (wrong_types p arms.0 arms.1)) (bare_words arms.0 k) tt) tt)

validif_words : (p : Place) (c a : Checked DataType) → IfSome a.has TypeHasWords → IfSome (validif_form p c a).has TypeHasWords
validif_words p c a h =
    after_holds TypeHasWords TypeHasWords (type_of_validif p) (joined (λ t u. u) c.has a.has)
    (right_holds TypeHasWords TypeHasWords (λ t u. u) c.has a.has h (λ t u k. k))
    (λ t k. ok_either TypeHasWords (is_numeric t) (Ok (bare t)) (Err (wrong_kinds p (t ∷ []))) (bare_words t k) tt)

pub expression_words : (scope : TypedScope) → AllByRecursion KnownHasWords scope → (e : Expression) → IfSome (expression_type scope e).has TypeHasWords
expression_words scope all (reference p n ps) =
    mapped_holds ReachedHasWords TypeHasWords (λ r. r.data_type) (along_parts scope p (root scope n) ps).has
    (along_words scope p ps (root scope n) (known_words scope n all)) (λ r k. k)
expression_words scope all (literal l) = number_words l.signed l.width
expression_words scope all (operation p op es ks) =
    after_holds (λ ts. Unit {0}) TypeHasWords (type_of_operation p op ks) (expression_types scope es).has (anything (expression_types scope es).has)
    (λ ts k. operation_words p op ks ts (operand_kinds (is_conversion op) ts))
  where
    anything : {A : Type 0} → (o : Option A) → IfSome o (λ x. Unit {0})
    anything None = tt
    anything (Some x) = tt
expression_words scope all (mux p c a b) =
    mux_words p (condition_form (place_of c) (expression_type scope c)) (passive_form (place_of a) (expression_type scope a))
    (passive_form (place_of b) (expression_type scope b)) (passive_words (place_of a) (expression_type scope a) (expression_words scope all a))
expression_words scope all (validif p c a) =
    validif_words p (condition_form (place_of c) (expression_type scope c)) (passive_form (place_of a) (expression_type scope a))
    (passive_words (place_of a) (expression_type scope a) (expression_words scope all a))
