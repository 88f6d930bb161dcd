-- The note of a reference has the leaves that the reference may name.
use Rattle.std.proofs.Common.{◌≡◌, ℕ, ◌*◌, List, [], ◌∷◌, ◌++◌, nat_lt, if◌then◌else◌, Bool, true, false, Option, Some, None, option_map, Ok, Err, refl, sym, ap, ◌∙◌, arith}
use Rattle.std.specs.Prelude.{max}
use Rattle.std.proofs.Math.Nat.{mul-one, mul_assoc}
use Rattle.std.proofs.lemmas.Option.{none-some, same_Some}
use Rattle.fir_ast.specs.declared.place.Place.{Place}
use Rattle.fir_ast.specs.Types.{DataType}
use Rattle.fir_ast.specs.Expressions.{Parts, no_parts, subfield, subindex, subaccess}
use Rattle.fir_ast.specs.Statements.{SinkReference}
use Rattle.fir_meaning.specs.ExpressionPlaces.{place_of}
use Rattle.fir_meaning.specs.KindFaults.{out_of_range}
use Rattle.fir_meaning.specs.LeafPaths.{named}
use Rattle.fir_meaning.specs.TypeKinds.{FieldFound}
use Rattle.fir_meaning.specs.TypeLeaves.{leaf_count}
use Rattle.fir_meaning.specs.Checked.{Checked, answer_on, answered, joined}
use Rattle.fir_meaning.specs.TypedScopes.{Known, TypedScope, known}
use Rattle.fir_meaning.specs.Reaching.{Reached, any_element, at_any, at_element, at_field, element_at, field_of_type, known_reached, reached_field, root, to_any, to_field, to_index, vector_of_type}
use Rattle.fir_meaning.specs.ExpressionTypes.{access_form, along_parts, condition_form, expression_type, field_form, index_form, reaching}
use Rattle.fir_meaning.specs.ResetItems.{type_of_field, type_of_element, length_of_vector}
use Rattle.fir_meaning.specs.ResetJoins.{type_of_known}
use Rattle.fir_types.specs.working.Notes.{LeafRange, Pick, known_range, element_range, field_range, of_reference, picked_range, position_of, range_behind, range_where, reference_note, whole_range}
use Rattle.fir_meaning.specs.Costs.{leaves_where, named_leaves, picks_from, picks_where}
use Rattle.fir_expand.specs.working.OwnSums.{leaves_noted, leaves_of_range, picked}

-- a part that leads from something to a type
field_has : (p : Place) (x : List ℕ) (o : Option Reached) (r : Reached) → (answer_on o (to_field p x)).has ≡ Some r
    → (b : Reached) × (o ≡ Some b) × (f : FieldFound) × (field_of_type x b.data_type ≡ Some f) × (f.data_type ≡ r.data_type)
field_has p x None r h = cc
field_has p x (Some b) r h = by (field_of_type x b.data_type) refl h
  where
    by : (o : Option FieldFound) → field_of_type x b.data_type ≡ o → (answered (reached_field p x b o)).has ≡ Some r
        → (c : Reached) × (Some b ≡ Some c) × (f : FieldFound) × (field_of_type x c.data_type ≡ Some f) × (f.data_type ≡ r.data_type)
    by None e k = cc
    by (Some f) e k = let same : at_field x b f ≡ r = cc in (b, refl, f, e, ap (λ (z : Reached). z.data_type) same)

element_has : (p : Place) (i : ℕ) (o : Option Reached) (r : Reached) → (answer_on o (to_index p i)).has ≡ Some r
    → (b : Reached) × (o ≡ Some b) × (v : DataType × ℕ) × (vector_of_type b.data_type ≡ Some v) × (v.0 ≡ r.data_type)
element_has p i None r h = cc
element_has p i (Some b) r h = by (vector_of_type b.data_type) refl h
  where
    granted : (within : Bool) (v : DataType × ℕ) → (answered (if within then Ok (at_element i b v.0) else Err (out_of_range p i v.1))).has ≡ Some r → v.0 ≡ r.data_type
    granted true v k = let same : at_element i b v.0 ≡ r = cc in ap (λ (z : Reached). z.data_type) same
    granted false v k = cc

    by : (o : Option (DataType × ℕ)) → vector_of_type b.data_type ≡ o → (answered (element_at p i b o)).has ≡ Some r
        → (c : Reached) × (Some b ≡ Some c) × (v : DataType × ℕ) × (vector_of_type c.data_type ≡ Some v) × (v.0 ≡ r.data_type)
    by None e k = cc
    by (Some v) e k = (b, refl, v, e, granted (nat_lt i v.1) v k)

any_has : (p : Place) (o : Option Reached) (r : Reached) → (answer_on o (to_any p)).has ≡ Some r
    → (b : Reached) × (o ≡ Some b) × (v : DataType × ℕ) × (vector_of_type b.data_type ≡ Some v) × (v.0 ≡ r.data_type)
any_has p None r h = cc
any_has p (Some b) r h = by (vector_of_type b.data_type) refl h
  where
    by : (o : Option (DataType × ℕ)) → vector_of_type b.data_type ≡ o → (answered (any_element p b o)).has ≡ Some r
        → (c : Reached) × (Some b ≡ Some c) × (v : DataType × ℕ) × (vector_of_type c.data_type ≡ Some v) × (v.0 ≡ r.data_type)
    by None e k = cc
    by (Some v) e k = let same : at_any b v ≡ r = cc in (b, refl, v, e, ap (λ (z : Reached). z.data_type) same)

first_has : {A B : Type 0} (o : Option A) (q : Option B) (x : A) → joined (λ r t. r) o q ≡ Some x → o ≡ Some x
first_has None q x h = cc
first_has (Some z) None x h = cc
first_has (Some z) (Some y) x h = h

picked_more : (ps : List Pick) (p : Pick) (n : ℕ) → picked (ps ++ p ∷ []) * n ≡ picked ps * (max 1 p.length * n)
picked_more [] p n =
    let one : max 1 p.length * 1 ≡ max 1 p.length = mul-one (max 1 p.length) in
    let alone : 1 * (max 1 p.length * n) ≡ max 1 p.length * n = omega arith in
    ap (λ k. k * n) one ∙ sym alone
picked_more (q ∷ ps) p n =
    mul_assoc (max 1 q.length) (picked (ps ++ p ∷ [])) n ∙ ap (λ k. max 1 q.length * k) (picked_more ps p n)
    ∙ sym (mul_assoc (max 1 q.length) (picked ps) (max 1 p.length * n))

-- what was reached before parts, and the leaves of a range of its type behind them
record Came (c : Checked Reached) (ps : Parts) (r : Reached) : Type 0 where
  begins : Reached
  has : c.has ≡ Some begins
  leaves : (range : LeafRange) → range.data_type ≡ begins.data_type
      → leaves_of_range (range_behind range ps) ≡ leaf_count r.data_type * (picked range.picks * picks_from range.data_type ps)

came : (scope : TypedScope) (p : Place) (c : Checked Reached) (ps : Parts) (r : Reached) → (along_parts scope p c ps).has ≡ Some r → Came c ps r
came scope p c no_parts r h = record {
  begins = r;
  has = h;
  leaves = λ range is. ap (λ t. leaf_count t * picked range.picks) is ∙ ap (λ n. leaf_count r.data_type * n) (sym (mul-one (picked range.picks)));
}
came scope p c (subfield first q x rest) r h =
    let later = came scope p (field_form p x c) rest r h in
    let here = field_has p x c.has later.begins later.has in
    record {
      begins = here.0;
      has = here.1;
      leaves = λ range is.
          let field : field_of_type x range.data_type ≡ Some here.2 = ap (field_of_type x) is ∙ here.3 in
          ap (λ o. leaves_of_range (range_behind (field_range x range o) rest)) field ∙ later.leaves (field_range x range (Some here.2)) here.4
          ∙ ap (λ o. leaf_count r.data_type * (picked range.picks * picks_from (type_of_field o) rest)) (sym field);
    }
came scope p c (subindex first q i rest) r h =
    let later = came scope p (index_form p i c) rest r h in
    let here = element_has p i c.has later.begins later.has in
    record {
      begins = here.0;
      has = here.1;
      leaves = λ range is.
          let vector : vector_of_type range.data_type ≡ Some here.2 = ap vector_of_type is ∙ here.3 in
          ap (λ o. leaves_of_range (range_behind (element_range i range o) rest)) vector ∙ later.leaves (element_range i range (Some here.2)) here.4
          ∙ ap (λ o. leaf_count r.data_type * (picked range.picks * picks_from (type_of_element o) rest)) (sym vector);
    }
came scope p c (subaccess first e rest) r h =
    let index = condition_form (place_of e) (expression_type scope e) in
    let later = came scope p (access_form p c index) rest r h in
    let here = any_has p (joined (λ (b : Reached) (t : DataType). b) c.has index.has) later.begins later.has in
    record {
      begins = here.0;
      has = first_has c.has index.has here.0 here.1;
      leaves = λ range is.
          let vector : vector_of_type range.data_type ≡ Some here.2 = ap vector_of_type is ∙ here.3 in
          let pick : Pick = record { stride = leaf_count here.2.0; length = here.2.1 } in
          ap (λ o. leaves_of_range (range_behind (picked_range range o) rest)) vector ∙ later.leaves (picked_range range (Some here.2)) here.4
          ∙ ap (λ n. leaf_count r.data_type * n) (picked_more range.picks pick (picks_from here.2.0 rest))
          ∙ ap (λ o. leaf_count r.data_type * (picked range.picks * (max 1 (length_of_vector o) * picks_from (type_of_element o) rest))) (sym vector);
    }

-- what is known without a type is nothing
known_untyped : (k : Known) → k.data_type ≡ None → known_reached (Some k) ≡ None
known_untyped k none = rw none refl

known_typed : (k : Known) (t : DataType) (b : Reached) → k.data_type ≡ Some t → known_reached (Some k) ≡ Some b → t ≡ b.data_type
known_typed k t b typed is =
    let reached : Reached = record { data_type = t; flow = k.flow; path = Some (named k.name ∷ []) } in
    let same : Some reached ≡ Some b = sym (ap (option_map (λ u. record { data_type = u; flow = k.flow; path = Some (named k.name ∷ []) })) typed) ∙ is in
    ap (λ (z : Reached). z.data_type) (same_Some reached b same)

-- of what a name with its parts reaches, if of anything
module _ (scope : TypedScope) (s : SinkReference) where
  of_known : (r : Reached) (k : Known) (t : Option DataType) → k.data_type ≡ t → known scope s.name ≡ Some k → (reaching scope s).has ≡ Some r
      → leaves_noted (of_reference (option_map (λ x. range_behind x s.parts) (option_map (whole_range (position_of scope s.name)) t)))
      ≡ leaf_count r.data_type * picks_where k.data_type s.parts
  of_known r k None none is reaches =
      let from = came scope s.place (root scope s.name) s.parts r reaches in
      let gone : (root scope s.name).has ≡ None = ap known_reached is ∙ known_untyped k none in
      absurd (none-some from.begins (sym gone ∙ from.has))
  of_known r k (Some t) typed is reaches =
      let from = came scope s.place (root scope s.name) s.parts r reaches in
      let begins : t ≡ from.begins.data_type = known_typed k t from.begins typed (sym (ap known_reached is) ∙ from.has) in
      let whole = whole_range (position_of scope s.name) t in
      let one : picked whole.picks * picks_from t s.parts ≡ picks_from t s.parts = omega arith in
      rw typed (from.leaves whole begins ∙ ap (λ n. leaf_count r.data_type * n) one)

  of_named : (r : Reached) (o : Option Known) → known scope s.name ≡ o → (reaching scope s).has ≡ Some r
      → leaves_noted (of_reference (option_map (λ x. range_behind x s.parts) (known_range (position_of scope s.name) o)))
      ≡ leaf_count r.data_type * picks_where (type_of_known o) s.parts
  of_named r None is reaches =
      let from = came scope s.place (root scope s.name) s.parts r reaches in absurd (none-some from.begins (sym (ap known_reached is) ∙ from.has))
  of_named r (Some k) is reaches = of_known r k k.data_type refl is reaches

  of_reached : (o : Option Reached) → (reaching scope s).has ≡ o
      → leaves_noted (of_reference (range_where o (option_map (λ x. range_behind x s.parts) (known_range (position_of scope s.name) (known scope s.name)))))
      ≡ leaves_where (option_map (λ r. r.data_type) o) * picks_where (type_of_known (known scope s.name)) s.parts
  of_reached None reaches = let none : 0 * picks_where (type_of_known (known scope s.name)) s.parts ≡ 0 = omega arith in sym none
  of_reached (Some r) reaches = of_named r (known scope s.name) refl reaches

  pub reference_leaves : leaves_noted (reference_note scope s) ≡ named_leaves scope s
  reference_leaves = of_reached (reaching scope s).has refl
