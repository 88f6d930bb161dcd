-- Types of expressions: no bundle of theirs has two fields of one name, where none of what is known has.
use Rattle.std.proofs.Common.{◌≡◌, ℕ, List, [], ◌∷◌, Bool, true, false, ◌&&◌, if◌then◌else◌, Option, Some, None, Result, Ok, Err, refl, ⊎_elim, ap, subst}
use Rattle.std.specs.Prelude.{nat_lt, option_map}
use Rattle.std.specs.Str.{bytes_eq}
use Rattle.std.proofs.lemmas.Option.{same_Some, none-some}
use Rattle.fir_base.specs.Lists.{In}
use Rattle.fir_base.proofs.Tests.{chosen}
use Rattle.fir_bits.specs.declared.operators.PrimOp.{PrimOp}
use Rattle.fir_bits.specs.declared.operators.PrimOp.TheVariants.{AsAsyncReset}
use Rattle.fir_bits.specs.declared.types.NumTy.{NumTy}
use Rattle.fir_bits.specs.Forms.{form_of, takes, first_type}
use Rattle.fir_bits.specs.Types.{signed_of}
use Rattle.fir_ast.specs.declared.place.Place.{Place}
use Rattle.fir_ast.specs.Types.{DataType, uint, sint, clock, reset, async_reset, bundle, vector, Fields, no_fields, field}
use Rattle.fir_ast.specs.Expressions.{Expression, reference, literal, operation, mux, validif, Parts, no_parts, subfield, subindex, subaccess}
use Rattle.fir_ast.specs.Faults.{Fault}
use Rattle.fir_meaning.specs.TypeKinds.{FieldFound, field_named, bare, bare_fields, is_numeric, is_passive}
use Rattle.fir_meaning.specs.Equivalence.{is_equivalent}
use Rattle.fir_meaning.specs.KindFaults.{wrong_kinds, wrong_types, not_passive, out_of_range}
use Rattle.fir_meaning.specs.LeafPaths.{named}
use Rattle.fir_meaning.specs.ExpressionPlaces.{place_of}
use Rattle.fir_meaning.specs.Checked.{Checked, answered, answer_on, joined}
use Rattle.fir_meaning.specs.OperationTypes.{is_conversion, operand_kinds, result_of, ground_of, operation_on, type_of_operation}
use Rattle.fir_meaning.specs.TypedScopes.{Known, TypedScope, known}
use Rattle.fir_meaning.specs.Reaching.{Reached, reached_field, to_field, element_at, at_element, to_index, any_element, to_any, field_of_type, vector_of_type, known_reached, root}
use Rattle.fir_meaning.specs.ExpressionTypes.{number_data_type, passive_at, type_of_mux, type_of_validif, passive_form, condition_form, field_form, index_form, access_form, expression_type, expression_types, along_parts}
use Rattle.fir_meaning.proofs.FreshFields.{field_names, HasFreshFields, AreFresh}

-- a type that is found has fresh fields
abbrev pub FreshWhere : Option DataType → Type 0
FreshWhere None = Unit {0}
FreshWhere (Some t) = HasFreshFields t

pub fresh_at : (o : Option DataType) (t : DataType) → FreshWhere o → o ≡ Some t → HasFreshFields t
fresh_at None t h e = absurd (none-some t e)
fresh_at (Some u) t h e = subst HasFreshFields (same_Some u t e) h

abbrev pub AllFresh : TypedScope → Type 0
AllFresh [] = Unit {0}
AllFresh (k ∷ ks) = FreshWhere k.data_type × AllFresh ks

abbrev FreshReached : Option Reached → Type 0
FreshReached None = Unit {0}
FreshReached (Some r) = HasFreshFields r.data_type

mutual
  bare_fresh : (t : DataType) → HasFreshFields t → HasFreshFields (bare t)
  bare_fresh (uint w) h = tt
  bare_fresh (sint w) h = tt
  bare_fresh clock h = tt
  bare_fresh reset h = tt
  bare_fresh async_reset h = tt
  bare_fresh (bundle fs) h = bare_fields_fresh fs h
  bare_fresh (vector t n) h = bare_fresh t h

  bare_fields_fresh : (fs : Fields) → AreFresh fs → AreFresh (bare_fields fs)
  bare_fields_fresh no_fields h = tt
  bare_fields_fresh (field p flip x b t rest) h = (λ i. h.0 (subst (λ ns. In ns x) (bare_names rest) i), bare_fresh t h.1, bare_fields_fresh rest h.2)

  bare_names : (fs : Fields) → field_names (bare_fields fs) ≡ field_names fs
  bare_names no_fields = refl
  bare_names (field p flip x b t rest) = ap (λ ns. x ∷ ns) (bare_names rest)

-- what a form makes of fresh types is fresh
field_fresh : (x : List ℕ) (fs : Fields) (f : FieldFound) → AreFresh fs → field_named x fs ≡ Some f → HasFreshFields f.data_type
field_fresh x no_fields f h e = absurd (none-some f e)
field_fresh x (field p flip y b t rest) f h e =
    ⊎_elim
    (λ (c : (bytes_eq y x ≡ true) × (Some (record { flip = flip; data_type = t }) ≡ Some f)).
    let same : record { flip = flip; data_type = t } ≡ f = same_Some _ f c.1 in subst (λ (g : FieldFound). HasFreshFields g.data_type) same h.1)
    (λ (c : (bytes_eq y x ≡ false) × (field_named x rest ≡ Some f)). field_fresh x rest f h.2 c.1)
    (chosen (bytes_eq y x) (Some (record { flip = flip; data_type = t })) (field_named x rest) (Some f) e)

abbrev FreshAnswer : Result Reached Fault → Type 0
FreshAnswer (Ok r) = HasFreshFields r.data_type
FreshAnswer (Err f) = Unit {0}

abbrev FreshResult : Result DataType Fault → Type 0
FreshResult (Ok t) = HasFreshFields t
FreshResult (Err f) = Unit {0}

to_field_fresh : (p : Place) (x : List ℕ) (r : Reached) → HasFreshFields r.data_type → FreshAnswer (to_field p x r)
to_field_fresh p x r h = by (field_of_type x r.data_type) (λ f e. of_type r.data_type f h e)
  where
    of_type : (t : DataType) (f : FieldFound) → HasFreshFields t → field_of_type x t ≡ Some f → HasFreshFields f.data_type
    of_type (bundle fs) f h e = field_fresh x fs f h e
    of_type t f h e = absurd (none-some f e)

    by : (o : Option FieldFound) → ((f : FieldFound) → o ≡ Some f → HasFreshFields f.data_type) → FreshAnswer (reached_field p x r o)
    by None k = tt
    by (Some f) k = k f refl

-- the element of a vector
element_fresh : (t : DataType) (v : DataType × ℕ) → HasFreshFields t → vector_of_type t ≡ Some v → HasFreshFields v.0
element_fresh (vector t n) v h e = let same : (t, n) ≡ v = same_Some (t, n) v e in subst (λ (w : DataType × ℕ). HasFreshFields w.0) same h
element_fresh t v h e = absurd (none-some v e)

to_index_fresh : (p : Place) (i : ℕ) (r : Reached) → HasFreshFields r.data_type → FreshAnswer (to_index p i r)
to_index_fresh p i r h = by (vector_of_type r.data_type) (λ v e. element_fresh r.data_type v h e)
  where
    within : (b : Bool) (s : Reached) (f : Fault) → HasFreshFields s.data_type → FreshAnswer (if b then Ok s else Err f)
    within true s f h = h
    within false s f h = tt

    by : (o : Option (DataType × ℕ)) → ((v : DataType × ℕ) → o ≡ Some v → HasFreshFields v.0) → FreshAnswer (element_at p i r o)
    by None k = tt
    by (Some v) k = within (nat_lt i v.1) (at_element i r v.0) (out_of_range p i v.1) (k v refl)

to_any_fresh : (p : Place) (r : Reached) → HasFreshFields r.data_type → FreshAnswer (to_any p r)
to_any_fresh p r h = by (vector_of_type r.data_type) (λ v e. element_fresh r.data_type v h e)
  where
    by : (o : Option (DataType × ℕ)) → ((v : DataType × ℕ) → o ≡ Some v → HasFreshFields v.0) → FreshAnswer (any_element p r o)
    by None k = tt
    by (Some v) k = k v refl

answer_reached : (o : Option Reached) (own : Reached → Result Reached Fault) → FreshReached o → ((r : Reached) → HasFreshFields r.data_type → FreshAnswer (own r))
    → FreshReached (answer_on o own).has
answer_reached None own h k = tt
answer_reached (Some r) own h k = by (own r) (k r h)
  where
    by : (a : Result Reached Fault) → FreshAnswer a → FreshReached (answered a).has
    by (Ok s) h = h
    by (Err f) h = tt

answer_fresh : {A : Type 0} → (o : Option A) (own : A → Result DataType Fault) → ((x : A) → o ≡ Some x → FreshResult (own x)) → FreshWhere (answer_on o own).has
answer_fresh None own k = tt
answer_fresh (Some x) own k = by (own x) (k x refl)
  where
    by : (a : Result DataType Fault) → FreshResult a → FreshWhere (answered a).has
    by (Ok s) h = h
    by (Err f) h = tt

first_reached : (o : Option Reached) (i : Option DataType) → FreshReached o → FreshReached (joined (λ r t. r) o i)
first_reached None i h = tt
first_reached (Some r) None h = tt
first_reached (Some r) (Some t) h = h

reached_type : (o : Option Reached) → FreshReached o → FreshWhere (option_map (λ r. r.data_type) o)
reached_type None h = tt
reached_type (Some r) h = h

if_fresh : (b : Bool) (x y : Result DataType Fault) → FreshResult x → FreshResult y → FreshResult (if b then x else y)
if_fresh true x y h k = h
if_fresh false x y h k = k

passive_fresh : (p : Place) (c : Checked DataType) → FreshWhere c.has → FreshWhere (passive_form p c).has
passive_fresh p c h = answer_fresh c.has (passive_at p) (λ t e. if_fresh (is_passive t) (Ok t) (Err (not_passive p t)) (fresh_at c.has t h e) tt)

-- the first of two arms behind a condition
first_arm : (c a b : Option DataType) (x : DataType × DataType) → FreshWhere a → joined (λ t arms. arms) c (joined (λ t u. (t, u)) a b) ≡ Some x → HasFreshFields x.0
first_arm (Some c) (Some a) (Some b) x h e = let same : (a, b) ≡ x = same_Some (a, b) x e in subst (λ (y : DataType × DataType). HasFreshFields y.0) same h
first_arm None a b x h e = absurd (none-some x e)
first_arm (Some c) None b x h e = absurd (none-some x e)
first_arm (Some c) (Some a) None x h e = absurd (none-some x e)

only_arm : (c a : Option DataType) (t : DataType) → FreshWhere a → joined (λ t u. u) c a ≡ Some t → HasFreshFields t
only_arm (Some c) (Some a) t h e = subst HasFreshFields (same_Some a t e) h
only_arm None a t h e = absurd (none-some t e)
only_arm (Some c) None t h e = absurd (none-some t e)

number_fresh : (signed : Bool) (width : Option ℕ) → HasFreshFields (number_data_type signed width)
number_fresh true width = tt
number_fresh false width = tt

ground_fresh : (signed : Bool) → HasFreshFields (ground_of signed)
ground_fresh true = tt
ground_fresh false = tt

result_fresh : (op : PrimOp) (kinds : List NumTy) → HasFreshFields (result_of op kinds)
result_fresh AsAsyncReset kinds = tt
result_fresh op kinds = ground_fresh (signed_of op (first_type kinds).signed)

operation_fresh : (p : Place) (op : PrimOp) (ks : List ℕ) (ts : List DataType) → FreshResult (type_of_operation p op ks ts)
operation_fresh p op ks ts = by (operand_kinds (is_conversion op) ts)
  where
    by : (o : Option (List NumTy)) → FreshResult (operation_on p op ks ts o)
    by None = tt
    by (Some kinds) = if_fresh (takes (form_of op) kinds ks) (Ok (result_of op kinds)) (Err (wrong_kinds p ts)) (result_fresh op kinds) tt

mux_fresh : (p : Place) (arms : DataType × DataType) → HasFreshFields arms.0 → FreshResult (type_of_mux p arms)
mux_fresh p arms h =
    if_fresh (is_numeric arms.0 && is_numeric arms.1) (if is_equivalent arms.0 arms.1 then Ok (bare arms.0) else Err (wrong_types p arms.0 arms.1))
    (Err (wrong_kinds p (arms.0 ∷ arms.1 ∷ [])))
    (if_fresh (is_equivalent arms.0 arms.1) (Ok (bare arms.0)) (Err (wrong_types p arms.0 arms.1)) (bare_fresh arms.0 h) tt) tt

validif_fresh : (p : Place) (t : DataType) → HasFreshFields t → FreshResult (type_of_validif p t)
validif_fresh p t h = if_fresh (is_numeric t) (Ok (bare t)) (Err (wrong_kinds p (t ∷ []))) (bare_fresh t h) tt

module _ (scope : TypedScope) (fresh : AllFresh scope) where
  along_fresh : (p : Place) (ps : Parts) (c : Checked Reached) → FreshReached c.has → FreshReached (along_parts scope p c ps).has
  along_fresh p no_parts c h = h
  along_fresh p (subfield first q x rest) c h = along_fresh p rest (field_form p x c) (answer_reached c.has (to_field p x) h (to_field_fresh p x))
  along_fresh p (subindex first q i rest) c h = along_fresh p rest (index_form p i c) (answer_reached c.has (to_index p i) h (to_index_fresh p i))
  along_fresh p (subaccess first e rest) c h =
      let index = condition_form (place_of e) (expression_type scope e) in
      along_fresh p rest (access_form p c index)
      (answer_reached (joined (λ r t. r) c.has index.has) (to_any p) (first_reached c.has index.has h) (to_any_fresh p))

  known_fresh : (n : List ℕ) → FreshReached (known_reached (known scope n))
  known_fresh n = among scope fresh
    where
      of_known : (k : Known) (t : Option DataType) → FreshWhere t
          → FreshReached (option_map (λ t. record { data_type = t; flow = k.flow; path = Some (named k.name ∷ []) }) t)
      of_known k None h = tt
      of_known k (Some t) h = h

      chosen_fresh : (b : Bool) (x y : Option Known) → FreshReached (known_reached x) → FreshReached (known_reached y) → FreshReached (known_reached (if b then x else y))
      chosen_fresh true x y h k = h
      chosen_fresh false x y h k = k

      among : (ks : TypedScope) → AllFresh ks → FreshReached (known_reached (known ks n))
      among [] h = tt
      among (k ∷ ks) h = chosen_fresh (bytes_eq k.name n) (Some k) (known ks n) (of_known k k.data_type h.0) (among ks h.1)

  pub expression_fresh : (e : Expression) → FreshWhere (expression_type scope e).has
  expression_fresh (reference p n ps) = reached_type (along_parts scope p (root scope n) ps).has (along_fresh p ps (root scope n) (known_fresh n))
  expression_fresh (literal l) = number_fresh l.signed l.width
  expression_fresh (operation p op es ks) = answer_fresh (expression_types scope es).has (type_of_operation p op ks) (λ ts e. operation_fresh p op ks ts)
  expression_fresh (mux p c a b) =
      let chooses = condition_form (place_of c) (expression_type scope c) in
      let one = passive_form (place_of a) (expression_type scope a) in
      let other = passive_form (place_of b) (expression_type scope b) in
      answer_fresh (joined (λ t arms. arms) chooses.has (joined (λ t u. (t, u)) one.has other.has)) (type_of_mux p)
      (λ x e. mux_fresh p x (first_arm chooses.has one.has other.has x (passive_fresh (place_of a) (expression_type scope a) (expression_fresh a)) e))
  expression_fresh (validif p c a) =
      let chooses = condition_form (place_of c) (expression_type scope c) in
      let one = passive_form (place_of a) (expression_type scope a) in
      answer_fresh (joined (λ t u. u) chooses.has one.has) (type_of_validif p)
      (λ t e. validif_fresh p t (only_arm chooses.has one.has t (passive_fresh (place_of a) (expression_type scope a) (expression_fresh a)) e))
