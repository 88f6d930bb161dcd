-- A reference that reaches something does so from what stands before its last part, and at first from what its name stands for.
use Rattle.std.proofs.Common.{◌≡◌, ℕ, ◌<◌, List, [], ◌∷◌, Bool, true, false, if◌then◌else◌, Option, Some, None, Result, Ok, Err, refl, ap, ◌∙◌}
use Rattle.std.specs.Prelude.{nat_lt, option_map}
use Rattle.std.proofs.lemmas.Bool.{ltb-true}
use Rattle.fir_ast.specs.declared.place.Place.{Place}
use Rattle.fir_ast.specs.Types.{DataType}
use Rattle.fir_ast.specs.Expressions.{Parts, no_parts, subfield, subindex, subaccess}
use Rattle.fir_ast.specs.Faults.{Fault}
use Rattle.fir_meaning.specs.Checked.{Checked, answered, answer_on, after, joined, together}
use Rattle.fir_meaning.specs.ExpressionTypes.{access_form, along_parts, condition_form, expression_type, field_form, index_form}
use Rattle.fir_meaning.specs.ExpressionPlaces.{place_of}
use Rattle.fir_meaning.specs.KindFaults.{out_of_range}
use Rattle.fir_meaning.specs.LeafPaths.{named}
use Rattle.fir_meaning.specs.Reaching.{Reached, any_element, at_any, at_element, at_field, element_at, field_of_type, known_reached, reached_field, root, to_any, to_field, to_index, vector_of_type}
use Rattle.fir_meaning.specs.TypedScopes.{Known, TypedScope, known}
use Rattle.fir_meaning.specs.TypeKinds.{FieldFound}

-- what a form that is something is made of
after_has : {A B : Type 0} → (c : Checked A) (own : A → Result B Fault) (y : B) → (after c own).has ≡ Some y
    → (x : A) × (c.has ≡ Some x) × (own x ≡ Ok y)
after_has {A = A} {B = B} c own y h = by c.has refl h
  where
    told : (x : A) (r : Result B Fault) → own x ≡ r → (answered r).has ≡ Some y → own x ≡ Ok y
    told x (Ok z) e k = let same : z ≡ y = cc in e ∙ ap Ok same
    told x (Err f) e k = cc

    by : (o : Option A) → c.has ≡ o → (answer_on o own).has ≡ Some y → (x : A) × (c.has ≡ Some x) × (own x ≡ Ok y)
    by None e k = cc
    by (Some x) e k = (x, e, told x (own x) refl k)

joined_has : {A B : Type 0} → (c : Option A) (d : Option B) (z : A) → joined (λ (x : A) (y : B). x) c d ≡ Some z → c ≡ Some z
joined_has None d z h = cc
joined_has (Some x) None z h = cc
joined_has (Some x) (Some y) z h = h

abbrev ok : Reached → Result Reached Fault
ok r = Ok r

abbrev refused : Fault → Result Reached Fault
refused f = Err f

same_ok : (a b : Reached) → ok a ≡ ok b → a ≡ b
same_ok a b e = cc

not_ok : (f : Fault) (b : Reached) → refused f ≡ ok b → ⊥
not_ok f b e = cc

-- behind a field
pub record FieldFrom (c : Checked Reached) (x : List ℕ) (r : Reached) : Type 0 where
  pub from : Reached
  pub has : c.has ≡ Some from
  pub field : FieldFound
  pub found : field_of_type x from.data_type ≡ Some field
  pub is : at_field x from field ≡ r

pub field_from : (p : Place) (x : List ℕ) (c : Checked Reached) (r : Reached) → (field_form p x c).has ≡ Some r → FieldFrom c x r
field_from p x c r h = let a = after_has c (to_field p x) r h in by a.0 a.1 (field_of_type x a.0.data_type) refl a.2
  where
    by : (b : Reached) → c.has ≡ Some b → (o : Option FieldFound) → field_of_type x b.data_type ≡ o → reached_field p x b o ≡ Ok r
        → FieldFrom c x r
    by b has None is e = absurd (not_ok _ r e)
    by b has (Some f) is e = record { from = b; has = has; field = f; found = is; is = same_ok (at_field x b f) r e }

-- behind an element of a number
pub record ElementFrom (c : Checked Reached) (i : ℕ) (r : Reached) : Type 0 where
  pub from : Reached
  pub has : c.has ≡ Some from
  pub element_type : DataType
  pub count : ℕ
  pub found : vector_of_type from.data_type ≡ Some (element_type, count)
  pub within : i < count
  pub is : at_element i from element_type ≡ r

pub element_from : (p : Place) (i : ℕ) (c : Checked Reached) (r : Reached) → (index_form p i c).has ≡ Some r → ElementFrom c i r
element_from p i c r h = let a = after_has c (to_index p i) r h in by a.0 a.1 (vector_of_type a.0.data_type) refl a.2
  where
    within : (b : Reached) → c.has ≡ Some b → (v : DataType × ℕ) → vector_of_type b.data_type ≡ Some v → (less : Bool)
        → nat_lt i v.1 ≡ less
        → (if less then Ok (at_element i b v.0) else Err (out_of_range p i v.1)) ≡ Ok r → ElementFrom c i r
    within b has v is true less e =
        record {
          from = b;
          has = has;
          element_type = v.0;
          count = v.1;
          found = is;
          within = ltb-true i v.1 less;
          is = same_ok (at_element i b v.0) r e;
        }
    within b has v is false less e = absurd (not_ok _ r e)

    by : (b : Reached) → c.has ≡ Some b → (o : Option (DataType × ℕ)) → vector_of_type b.data_type ≡ o → element_at p i b o ≡ Ok r
        → ElementFrom c i r
    by b has None is e = absurd (not_ok _ r e)
    by b has (Some v) is e = within b has v is (nat_lt i v.1) refl e

-- behind an element that an index picks
pub record AnyFrom (c : Checked Reached) (r : Reached) : Type 0 where
  pub from : Reached
  pub has : c.has ≡ Some from
  pub elements : DataType × ℕ
  pub found : vector_of_type from.data_type ≡ Some elements
  pub is : at_any from elements ≡ r

pub any_from : (p : Place) (c : Checked Reached) (index : Checked DataType) (r : Reached) → (access_form p c index).has ≡ Some r → AnyFrom c r
any_from p c index r h =
    let a = after_has (together (λ (x : Reached) (t : DataType). x) c index) (to_any p) r h in
    by a.0 (joined_has c.has index.has a.0 a.1) (vector_of_type a.0.data_type) refl a.2
  where
    by : (b : Reached) → c.has ≡ Some b → (o : Option (DataType × ℕ)) → vector_of_type b.data_type ≡ o → any_element p b o ≡ Ok r
        → AnyFrom c r
    by b has None is e = absurd (not_ok _ r e)
    by b has (Some v) is e = record { from = b; has = has; elements = v; found = is; is = same_ok (at_any b v) r e }

-- where parts lead to something they begin with something
pub begins_with : (scope : TypedScope) (p : Place) (c : Checked Reached) (ps : Parts) (r : Reached) → (along_parts scope p c ps).has ≡ Some r
    → (b : Reached) × (c.has ≡ Some b)
begins_with scope p c no_parts r h = (r, h)
begins_with scope p c (subfield first q x rest) r h =
    let b = begins_with scope p (field_form p x c) rest r h in let f = field_from p x c b.0 b.1 in (f.from, f.has)
begins_with scope p c (subindex first q i rest) r h =
    let b = begins_with scope p (index_form p i c) rest r h in let f = element_from p i c b.0 b.1 in (f.from, f.has)
begins_with scope p c (subaccess first e rest) r h =
    let index = condition_form (place_of e) (expression_type scope e) in
    let b = begins_with scope p (access_form p c index) rest r h in
    let f = any_from p c index b.0 b.1 in
    (f.from, f.has)

-- what a name stands for
pub record RootFrom (scope : TypedScope) (n : List ℕ) (r : Reached) : Type 0 where
  pub found : Known
  pub is_known : known scope n ≡ Some found
  pub data_type : DataType
  pub has_type : found.data_type ≡ Some data_type
  pub is : record { data_type = data_type; flow = found.flow; path = Some (named found.name ∷ []) } ≡ r

same_some : (a b : Reached) → Some a ≡ Some b → a ≡ b
same_some a b e = cc

pub root_from : (scope : TypedScope) (n : List ℕ) (r : Reached) → (root scope n).has ≡ Some r → RootFrom scope n r
root_from scope n r h = by (known scope n) refl h
  where
    typed : (k : Known) → known scope n ≡ Some k → (o : Option DataType) → k.data_type ≡ o
        → option_map (λ t. record { data_type = t; flow = k.flow; path = Some (named k.name ∷ []) }) o ≡ Some r → RootFrom scope n r
    typed k is None has e = cc
    typed k is (Some t) has e = record { found = k; is_known = is; data_type = t; has_type = has; is = same_some _ r e }

    by : (o : Option Known) → known scope n ≡ o → known_reached o ≡ Some r → RootFrom scope n r
    by None is e = cc
    by (Some k) is e = typed k is k.data_type refl e
