-- A form that shows no fault, and whose names are known, has a type.
use Rattle.std.proofs.Common.{◌≡◌, ℕ, ◌<◌, List, [], ◌∷◌, ◌++◌, Bool, true, false, ◌&&◌, if◌then◌else◌, Option, Some, None, Result, Ok, Err, refl, subst}
use Rattle.std.proofs.lemmas.Bool.{ltb-true}
use Rattle.std.specs.Prelude.{nat_lt}
use Rattle.fir_bits.specs.declared.operators.PrimOp.{PrimOp}
use Rattle.fir_bits.specs.declared.types.NumTy.{NumTy}
use Rattle.fir_bits.specs.Forms.{form_of, takes}
use Rattle.fir_ast.specs.declared.place.Place.{Place}
use Rattle.fir_ast.specs.Types.{DataType, uint}
use Rattle.fir_ast.specs.Expressions.{Expression, reference, literal, operation, mux, validif, Parts, no_parts, subfield, subindex, subaccess, Expressions, no_expressions, expression}
use Rattle.fir_ast.specs.Statements.{SinkReference}
use Rattle.fir_ast.specs.Faults.{Fault}
use Rattle.fir_meaning.specs.Components.{Declaration, Declarations, find}
use Rattle.fir_meaning.specs.Mentions.{expression_mentions, part_mentions, operand_mentions, sink_mentions}
use Rattle.fir_meaning.specs.NameGroups.{faults_in, hidden_faults}
use Rattle.fir_meaning.specs.TypeKinds.{FieldFound, is_passive, is_numeric, bare}
use Rattle.fir_meaning.specs.Equivalence.{is_equivalent}
use Rattle.fir_meaning.specs.ExpressionPlaces.{place_of}
use Rattle.fir_meaning.specs.KindFaults.{wrong_kinds, wrong_types, not_passive, out_of_range}
use Rattle.fir_meaning.specs.Checked.{Checked, is_found, answered, answer_on, after, together}
use Rattle.fir_meaning.specs.OperationTypes.{is_conversion, operand_kinds, result_of, operation_on, type_of_operation}
use Rattle.fir_meaning.specs.TypedScopes.{TypedScope, known}
use Rattle.fir_meaning.specs.Reaching.{Reached, reached_field, to_field, element_at, to_index, any_element, to_any, at_field, at_element, at_any, field_of_type, vector_of_type, known_reached}
use Rattle.fir_meaning.specs.ExpressionTypes.{number_data_type, unsigned_at, passive_at, type_of_mux, type_of_validif, condition_form, passive_form, field_form, index_form, access_form, expression_type, expression_types, along_parts, reaching}
use Rattle.fir_meaning.specs.working.WellTyped.{HasType, HaveTypes, Leads, Reaches}
use Rattle.fir_base.proofs.Empty.{empty_left, empty_right}
use Rattle.fir_base.proofs.Tests.{both}
use Rattle.fir_meaning.proofs.OneLookUp.{seen}
use Rattle.fir_meaning.proofs.OnceDeclared.{clear_left, clear_right}
use Rattle.fir_meaning.proofs.FoundTypes.{after_found, together_found, field_says, index_says, any_says, found_condition, found_passive, found_root, found_type, found_types}

-- what shows no fault is an answer
pub answer : {B : Type 0} → (r : Result B Fault) → (answered r).shows ≡ [] → (y : B) × (r ≡ Ok y)
answer (Ok y) h = (y, refl)
answer (Err f) h = cc

pub answer_after : {A B : Type 0} → (c : Checked A) (x : A) (own : A → Result B Fault) → c ≡ is_found x → (after c own).shows ≡ [] → (y : B) × (own x ≡ Ok y)
answer_after c x own e h =
    answer (own x) (empty_right [] (answered (own x)).shows (subst (λ (d : Checked _). (after d own).shows ≡ []) e h))

-- a test that is passed where there is an answer
pub granted : {A : Type 0} → (b : Bool) (r : Result A Fault) (f : Fault) (y : A) → (if b then r else Err f) ≡ Ok y → (b ≡ true) × (r ≡ Ok y)
granted true r f y h = (refl, h)
granted false r f y h = cc

-- what the forms tell by an answer
unsigned_type : (p : Place) (t y : DataType) → unsigned_at p t ≡ Ok y → (width : Option ℕ) × (t ≡ uint width)
unsigned_type p (uint width) y h = (width, refl)
unsigned_type p t y h = cc

record MayMux (u v : DataType) : Type 0 where
  first : is_numeric u ≡ true
  second : is_numeric v ≡ true
  equivalent : is_equivalent u v ≡ true

may_mux : (p : Place) (u v y : DataType) → type_of_mux p (u, v) ≡ Ok y → MayMux u v
may_mux p u v y h =
    let fit : Result DataType Fault = if is_equivalent u v then Ok (bare u) else Err (wrong_types p u v) in
    let tests = granted (is_numeric u && is_numeric v) fit (wrong_kinds p (u ∷ v ∷ [])) y h in
    let each = both (is_numeric u) (is_numeric v) tests.0 in
    record { first = each.0; second = each.1; equivalent = (granted (is_equivalent u v) (Ok (bare u)) (wrong_types p u v) y tests.1).0 }

record MayOperate (op : PrimOp) (ks : List ℕ) (ts : List DataType) : Type 0 where
  kinds : List NumTy
  are : operand_kinds (is_conversion op) ts ≡ Some kinds
  taken : takes (form_of op) kinds ks ≡ true

may_operate : (p : Place) (op : PrimOp) (ks : List ℕ) (ts : List DataType) (y : DataType) → type_of_operation p op ks ts ≡ Ok y → MayOperate op ks ts
may_operate p op ks ts y h = by (operand_kinds (is_conversion op) ts) refl h
  where
    by : (o : Option (List NumTy)) → operand_kinds (is_conversion op) ts ≡ o → operation_on p op ks ts o ≡ Ok y → MayOperate op ks ts
    by None e k = cc
    by (Some kinds) e k = record { kinds = kinds; are = e; taken = (granted (takes (form_of op) kinds ks) (Ok (result_of op kinds)) (wrong_kinds p ts) y k).0 }

has_field : (p : Place) (x : List ℕ) (r y : Reached) → to_field p x r ≡ Ok y → (f : FieldFound) × (field_of_type x r.data_type ≡ Some f)
has_field p x r y h = by (field_of_type x r.data_type) refl h
  where
    by : (o : Option FieldFound) → field_of_type x r.data_type ≡ o → reached_field p x r o ≡ Ok y → (f : FieldFound) × (field_of_type x r.data_type ≡ Some f)
    by None e k = cc
    by (Some f) e k = (f, e)

record HasElement (r : Reached) (i : ℕ) : Type 0 where
  type : DataType
  count : ℕ
  vector : vector_of_type r.data_type ≡ Some (type, count)
  below : i < count

has_element : (p : Place) (i : ℕ) (r y : Reached) → to_index p i r ≡ Ok y → HasElement r i
has_element p i r y h = by (vector_of_type r.data_type) refl h
  where
    by : (o : Option (DataType × ℕ)) → vector_of_type r.data_type ≡ o → element_at p i r o ≡ Ok y → HasElement r i
    by None e k = cc
    by (Some v) e k =
        record {
          type = v.0;
          count = v.1;
          vector = e;
          below = ltb-true i v.1 (granted (nat_lt i v.1) (Ok (at_element i r v.0)) (out_of_range p i v.1) y k).0;
        }

has_any : (p : Place) (r y : Reached) → to_any p r ≡ Ok y → (v : DataType × ℕ) × (vector_of_type r.data_type ≡ Some v)
has_any p r y h = by (vector_of_type r.data_type) refl h
  where
    by : (o : Option (DataType × ℕ)) → vector_of_type r.data_type ≡ o → any_element p r o ≡ Ok y → (v : DataType × ℕ) × (vector_of_type r.data_type ≡ Some v)
    by None e k = cc
    by (Some v) e k = (v, e)

-- each name that is visible is known, with its type
pub record Knows (scope : TypedScope) (visible : Declarations) : Type 0 where
  pub each : (n : List ℕ) (d : Declaration) → find visible n ≡ Some d → (r : Reached) × (known_reached (known scope n) ≡ Some r)

-- a type that an expression has
pub record IsTyped (scope : TypedScope) (e : Expression) : Type 0 where
  pub type : DataType
  pub has : HasType scope e type

record AreTyped (scope : TypedScope) (es : Expressions) : Type 0 where
  types : List DataType
  have : HaveTypes scope es types

pub record LeadsOn (scope : TypedScope) (r : Reached) (ps : Parts) : Type 0 where
  pub reached : Reached
  pub leads : Leads scope r ps reached

pub record IsUnsigned (scope : TypedScope) (e : Expression) : Type 0 where
  pub width : Option ℕ
  pub has : HasType scope e (uint width)

record IsArm (scope : TypedScope) (e : Expression) : Type 0 where
  type : DataType
  has : HasType scope e type
  passive : is_passive type ≡ true

module _ (scope : TypedScope) where
  shown_first : (p : Place) (c : Checked Reached) (ps : Parts) → (along_parts scope p c ps).shows ≡ [] → c.shows ≡ []
  shown_first p c no_parts h = h
  shown_first p c (subfield first q x rest) h = empty_left c.shows (answer_on c.has (to_field p x)).shows (shown_first p (field_form p x c) rest h)
  shown_first p c (subindex first q i rest) h = empty_left c.shows (answer_on c.has (to_index p i)).shows (shown_first p (index_form p i c) rest h)
  shown_first p c (subaccess first e rest) h =
      let index = condition_form (place_of e) (expression_type scope e) in
      let own = together (λ (r : Reached) (t : DataType). r) c index in
      empty_left c.shows index.shows
      (empty_left own.shows (answer_on own.has (to_any p)).shows (shown_first p (access_form p c index) rest h))

  -- of an operand that is tested where it stands
  pub operand_clear : {B : Type 0} → (e : Expression) (own : DataType → Result B Fault) → (after (expression_type scope e) own).shows ≡ [] → (expression_type scope e).shows ≡ []
  operand_clear e own h = let c = expression_type scope e in empty_left c.shows (answer_on c.has own).shows h

  pub unsigned_clear : (e : Expression) → IsTyped scope e → (condition_form (place_of e) (expression_type scope e)).shows ≡ [] → IsUnsigned scope e
  unsigned_clear e t h =
      let told = answer_after (expression_type scope e) t.type (unsigned_at (place_of e)) (found_type scope e t.type t.has) h in
      let r = unsigned_type (place_of e) t.type told.0 told.1 in
      record { width = r.0; has = subst (HasType scope e) r.1 t.has }

  arm_clear : (e : Expression) → IsTyped scope e → (passive_form (place_of e) (expression_type scope e)).shows ≡ [] → IsArm scope e
  arm_clear e t h =
      let told = answer_after (expression_type scope e) t.type (passive_at (place_of e)) (found_type scope e t.type t.has) h in
      record { type = t.type; has = t.has; passive = (granted (is_passive t.type) (Ok t.type) (not_passive (place_of e) t.type) told.0 told.1).0 }

module _ (scope : TypedScope) (visible : Declarations) (knows : Knows scope visible) where
  pub known_root : (p : Place) (n : List ℕ) → hidden_faults (find visible n) p n ≡ [] → (r : Reached) × (known_reached (known scope n) ≡ Some r)
  known_root p n h = let d = seen (find visible n) p n h in knows.each n d.0 d.1

  mutual
    pub clear_type : (e : Expression) → faults_in (expression_mentions visible e) ≡ [] → (expression_type scope e).shows ≡ [] → IsTyped scope e
    clear_type (reference p n ps) m h =
        let hidden = hidden_faults (find visible n) p n in
        let begins = known_root p n (empty_left hidden (faults_in (part_mentions visible ps)) m) in
        let on = clear_parts p begins.0 ps (empty_right hidden (faults_in (part_mentions visible ps)) m)
        (subst (λ (c : Checked Reached). (along_parts scope p c ps).shows ≡ []) (found_root scope n begins.0 begins.1) h) in
        record { type = on.reached.data_type; has = (begins.0, on.reached, begins.1, on.leads, refl) }
    clear_type (literal l) m h = record { type = number_data_type l.signed l.width; has = refl }
    clear_type (operation p op es ks) m h =
        let c = expression_types scope es in
        let inside = clear_types es m (empty_left c.shows (answer_on c.has (type_of_operation p op ks)).shows h) in
        let told = answer_after c inside.types (type_of_operation p op ks) (found_types scope es inside.types inside.have) h in
        let may = may_operate p op ks inside.types told.0 told.1 in
        record { type = result_of op may.kinds; has = (inside.types, may.kinds, inside.have, may.are, may.taken, refl) }
    clear_type (mux p c a b) m h =
        let mentioned_c = expression_mentions visible c in
        let mentioned_a = expression_mentions visible a in
        let mentioned_b = expression_mentions visible b in
        let front = clear_left (mentioned_c ++ mentioned_a) mentioned_b m in
        let form_c = condition_form (place_of c) (expression_type scope c) in
        let form_a = passive_form (place_of a) (expression_type scope a) in
        let form_b = passive_form (place_of b) (expression_type scope b) in
        let arms = together (λ u v. (u, v)) form_a form_b in
        let all = together (λ (u : DataType) v. v) form_c arms in
        let operands = empty_left all.shows (answer_on all.has (type_of_mux p)).shows h in
        let later = empty_right form_c.shows arms.shows operands in
        let at_c = empty_left form_c.shows arms.shows operands in
        let at_a = empty_left form_a.shows form_b.shows later in
        let at_b = empty_right form_a.shows form_b.shows later in
        let one = unsigned_clear scope c (clear_type c (clear_left mentioned_c mentioned_a front) (operand_clear scope c (unsigned_at (place_of c)) at_c)) at_c in
        let two = arm_clear scope a (clear_type a (clear_right mentioned_c mentioned_a front) (operand_clear scope a (passive_at (place_of a)) at_a)) at_a in
        let three = arm_clear scope b (clear_type b (clear_right (mentioned_c ++ mentioned_a) mentioned_b m) (operand_clear scope b (passive_at (place_of b)) at_b)) at_b in
        let found_c = found_condition scope c one.width (found_type scope c (uint one.width) one.has) in
        let found_a = found_passive scope a two.type (found_type scope a two.type two.has) two.passive in
        let found_b = found_passive scope b three.type (found_type scope b three.type three.has) three.passive in
        let found = together_found (λ u v. v) form_c arms (uint one.width) (two.type, three.type) found_c
        (together_found (λ u v. (u, v)) form_a form_b two.type three.type found_a found_b) in
        let told = answer_after all (two.type, three.type) (type_of_mux p) found h in
        let may = may_mux p two.type three.type told.0 told.1 in
        record {
          type = bare two.type;
          has = (
            one.width,
            two.type,
            three.type,
            one.has,
            two.has,
            two.passive,
            may.first,
            three.has,
            three.passive,
            may.second,
            may.equivalent,
            refl,
          );
        }
    clear_type (validif p c a) m h =
        let mentioned_c = expression_mentions visible c in
        let mentioned_a = expression_mentions visible a in
        let form_c = condition_form (place_of c) (expression_type scope c) in
        let form_a = passive_form (place_of a) (expression_type scope a) in
        let all = together (λ (u v : DataType). v) form_c form_a in
        let operands = empty_left all.shows (answer_on all.has (type_of_validif p)).shows h in
        let at_c = empty_left form_c.shows form_a.shows operands in
        let at_a = empty_right form_c.shows form_a.shows operands in
        let one = unsigned_clear scope c (clear_type c (clear_left mentioned_c mentioned_a m) (operand_clear scope c (unsigned_at (place_of c)) at_c)) at_c in
        let two = arm_clear scope a (clear_type a (clear_right mentioned_c mentioned_a m) (operand_clear scope a (passive_at (place_of a)) at_a)) at_a in
        let found_c = found_condition scope c one.width (found_type scope c (uint one.width) one.has) in
        let found_a = found_passive scope a two.type (found_type scope a two.type two.has) two.passive in
        let told = answer_after all two.type (type_of_validif p) (together_found (λ u v. v) form_c form_a (uint one.width) two.type found_c found_a) h in
        let numeric = (granted (is_numeric two.type) (Ok (bare two.type)) (wrong_kinds p (two.type ∷ [])) told.0 told.1).0 in
        record { type = bare two.type; has = (one.width, two.type, one.has, two.has, two.passive, numeric, refl) }

    clear_types : (es : Expressions) → faults_in (operand_mentions visible es) ≡ [] → (expression_types scope es).shows ≡ [] → AreTyped scope es
    clear_types no_expressions m h = record { types = []; have = refl }
    clear_types (expression e es) m h =
        let here = expression_mentions visible e in
        let more = operand_mentions visible es in
        let c = expression_type scope e in
        let cs = expression_types scope es in
        let one = clear_type e (clear_left here more m) (empty_left c.shows cs.shows h) in
        let rest = clear_types es (clear_right here more m) (empty_right c.shows cs.shows h) in
        record { types = one.type ∷ rest.types; have = (one.type, rest.types, one.has, rest.have, refl) }

    pub clear_parts : (p : Place) (r : Reached) (ps : Parts) → faults_in (part_mentions visible ps) ≡ [] → (along_parts scope p (is_found r) ps).shows ≡ []
        → LeadsOn scope r ps
    clear_parts p r no_parts m h = record { reached = r; leads = refl }
    clear_parts p r (subfield first q x rest) m h =
        let told = answer_after (is_found r) r (to_field p x) refl (shown_first scope p (field_form p x (is_found r)) rest h) in
        let f = has_field p x r told.0 told.1 in
        let next = at_field x r f.0 in
        let found = after_found (is_found r) r next (to_field p x) refl (field_says p x r f.0 f.1) in
        let on = clear_parts p next rest m (subst (λ (c : Checked Reached). (along_parts scope p c rest).shows ≡ []) found h) in
        record { reached = on.reached; leads = (f.0, f.1, on.leads) }
    clear_parts p r (subindex first q i rest) m h =
        let told = answer_after (is_found r) r (to_index p i) refl (shown_first scope p (index_form p i (is_found r)) rest h) in
        let e = has_element p i r told.0 told.1 in
        let next = at_element i r e.type in
        let found = after_found (is_found r) r next (to_index p i) refl (index_says p i r e.type e.count e.vector e.below) in
        let on = clear_parts p next rest m (subst (λ (c : Checked Reached). (along_parts scope p c rest).shows ≡ []) found h) in
        record { reached = on.reached; leads = (e.type, e.count, e.vector, e.below, on.leads) }
    clear_parts p r (subaccess first e rest) m h =
        let here = expression_mentions visible e in
        let more = part_mentions visible rest in
        let index = condition_form (place_of e) (expression_type scope e) in
        let all = together (λ (u : Reached) (v : DataType). u) (is_found r) index in
        let own = shown_first scope p (access_form p (is_found r) index) rest h in
        let at_e = empty_left index.shows (answer_on all.has (to_any p)).shows own in
        let one = unsigned_clear scope e (clear_type e (clear_left here more m) (operand_clear scope e (unsigned_at (place_of e)) at_e)) at_e in
        let both = together_found (λ u v. u) (is_found r) index r (uint one.width) refl (found_condition scope e one.width (found_type scope e (uint one.width) one.has)) in
        let told = answer_after all r (to_any p) both own in
        let v = has_any p r told.0 told.1 in
        let next = at_any r v.0 in
        let found = after_found all r next (to_any p) both (any_says p r v.0 v.1) in
        let on = clear_parts p next rest (clear_right here more m) (subst (λ (c : Checked Reached). (along_parts scope p c rest).shows ≡ []) found h) in
        record { reached = on.reached; leads = (one.width, v.0.0, v.0.1, one.has, v.1, on.leads) }

  -- what a sink reaches
  pub clear_sink : (s : SinkReference) → faults_in (sink_mentions visible s) ≡ [] → (reaching scope s).shows ≡ [] → (r : Reached) × Reaches scope s r
  clear_sink s m h =
      let hidden = hidden_faults (find visible s.name) s.place s.name in
      let begins = known_root s.place s.name (empty_left hidden (faults_in (part_mentions visible s.parts)) m) in
      let on = clear_parts s.place begins.0 s.parts (empty_right hidden (faults_in (part_mentions visible s.parts)) m)
      (subst (λ (c : Checked Reached). (along_parts scope s.place c s.parts).shows ≡ []) (found_root scope s.name begins.0 begins.1) h) in
      (on.reached, (begins.0, begins.1, on.leads))
