-- What has a type is found to have it, and shows no fault.
use Rattle.std.proofs.Common.{◌≡◌, ℕ, ◌<◌, List, ◌∷◌, true, Option, Some, Result, Ok, refl, sym, ap, ◌∙◌}
use Rattle.std.proofs.lemmas.Bool.{lt-ltb}
use Rattle.fir_bits.specs.declared.operators.PrimOp.{PrimOp}
use Rattle.fir_bits.specs.declared.types.NumTy.{NumTy}
use Rattle.fir_bits.specs.Forms.{form_of, takes}
use Rattle.fir_ast.specs.declared.place.Place.{Place}
use Rattle.fir_ast.specs.Types.{DataType, uint}
use Rattle.fir_ast.specs.Expressions.{Expression, reference, literal, operation, mux, validif, Parts, no_parts, subfield, subindex, subaccess, Expressions, no_expressions, expression}
use Rattle.fir_ast.specs.Statements.{SinkReference}
use Rattle.fir_ast.specs.Faults.{Fault}
use Rattle.fir_meaning.specs.TypeKinds.{FieldFound, is_passive, is_numeric, bare}
use Rattle.fir_meaning.specs.Equivalence.{is_equivalent}
use Rattle.fir_meaning.specs.ExpressionPlaces.{place_of}
use Rattle.fir_meaning.specs.Checked.{Checked, is_found, after, together}
use Rattle.fir_meaning.specs.OperationTypes.{is_conversion, operand_kinds, result_of, type_of_operation}
use Rattle.fir_meaning.specs.TypedScopes.{TypedScope, known}
use Rattle.fir_meaning.specs.Reaching.{Reached, to_field, to_index, to_any, at_field, at_element, at_any, field_of_type, vector_of_type, known_reached, root}
use Rattle.fir_meaning.specs.ExpressionTypes.{unsigned_at, passive_at, type_of_mux, type_of_validif, type_reached, condition_form, passive_form, expression_type, expression_types, along_parts, reaching}
use Rattle.fir_meaning.specs.working.WellTyped.{HasType, HaveTypes, Leads, Reaches}

-- a form on an operand that is found, and two operands that are
pub after_found : {A B : Type 0} → (c : Checked A) (x : A) (y : B) (own : A → Result B Fault) → c ≡ is_found x → own x ≡ Ok y → after c own ≡ is_found y
after_found c x y own e f = rw (e, f) refl

pub together_found : {A B C : Type 0} → (f : A → B → C) (c : Checked A) (d : Checked B) (x : A) (y : B) → c ≡ is_found x → d ≡ is_found y
    → together f c d ≡ is_found (f x y)
together_found f c d x y e g = rw (e, g) refl

-- what the forms say themselves
pub mux_says : (p : Place) (u v : DataType) → is_numeric u ≡ true → is_numeric v ≡ true → is_equivalent u v ≡ true → type_of_mux p (u, v) ≡ Ok (bare u)
mux_says p u v i j k = rw (i, j, k) refl

pub operation_says : (p : Place) (op : PrimOp) (ks : List ℕ) (ts : List DataType) (kinds : List NumTy) → operand_kinds (is_conversion op) ts ≡ Some kinds
    → takes (form_of op) kinds ks ≡ true → type_of_operation p op ks ts ≡ Ok (result_of op kinds)
operation_says p op ks ts kinds e h = rw (e, h) refl

pub field_says : (p : Place) (x : List ℕ) (r : Reached) (f : FieldFound) → field_of_type x r.data_type ≡ Some f → to_field p x r ≡ Ok (at_field x r f)
field_says p x r f e = rw e refl

pub any_says : (p : Place) (r : Reached) (v : DataType × ℕ) → vector_of_type r.data_type ≡ Some v → to_any p r ≡ Ok (at_any r v)
any_says p r v e = rw e refl

pub index_says : (p : Place) (i : ℕ) (r : Reached) (t : DataType) (n : ℕ) → vector_of_type r.data_type ≡ Some (t, n) → i < n → to_index p i r ≡ Ok (at_element i r t)
index_says p i r t n e lt = rw (e, lt-ltb i n lt) refl

module _ (scope : TypedScope) where
  pub found_condition : (e : Expression) (width : Option ℕ) → expression_type scope e ≡ is_found (uint width)
      → condition_form (place_of e) (expression_type scope e) ≡ is_found (uint width)
  found_condition e width h = after_found (expression_type scope e) (uint width) (uint width) (unsigned_at (place_of e)) h refl

  pub found_passive : (e : Expression) (t : DataType) → expression_type scope e ≡ is_found t → is_passive t ≡ true
      → passive_form (place_of e) (expression_type scope e) ≡ is_found t
  found_passive e t h i = after_found (expression_type scope e) t t (passive_at (place_of e)) h (rw i refl)

  pub found_root : (n : List ℕ) (r : Reached) → known_reached (known scope n) ≡ Some r → root scope n ≡ is_found r
  found_root n r h = rw h refl

  mutual
    pub found_type : (e : Expression) (t : DataType) → HasType scope e t → expression_type scope e ≡ is_found t
    found_type (reference p n ps) t h =
        ap (λ c. type_reached (along_parts scope p c ps)) (found_root n h.0 h.2) ∙ ap type_reached (found_parts p h.0 h.1 ps h.3) ∙ ap is_found (sym h.4)
    found_type (literal l) t h = ap is_found (sym h)
    found_type (operation p op es ks) t h =
        after_found (expression_types scope es) h.0 (result_of op h.1) (type_of_operation p op ks) (found_types es h.0 h.2) (operation_says p op ks h.0 h.1 h.3 h.4)
        ∙ ap is_found (sym h.5)
    found_type (mux p c a b) t h =
        let form_c = condition_form (place_of c) (expression_type scope c) in
        let form_a = passive_form (place_of a) (expression_type scope a) in
        let form_b = passive_form (place_of b) (expression_type scope b) in
        let one = found_condition c h.0 (found_type c (uint h.0) h.3) in
        let two = found_passive a h.1 (found_type a h.1 h.4) h.5 in
        let three = found_passive b h.2 (found_type b h.2 h.7) h.8 in
        let arms = together_found (λ u v. (u, v)) form_a form_b h.1 h.2 two three in
        let all = together_found (λ u v. v) form_c (together (λ u v. (u, v)) form_a form_b) (uint h.0) (h.1, h.2) one arms in
        after_found (together (λ u v. v) form_c (together (λ u v. (u, v)) form_a form_b)) (h.1, h.2) (bare h.1) (type_of_mux p) all (mux_says p h.1 h.2 h.6 h.9 h.10)
        ∙ ap is_found (sym h.11)
    found_type (validif p c a) t h =
        let form_c = condition_form (place_of c) (expression_type scope c) in
        let form_a = passive_form (place_of a) (expression_type scope a) in
        let one = found_condition c h.0 (found_type c (uint h.0) h.2) in
        let two = found_passive a h.1 (found_type a h.1 h.3) h.4 in
        let both = together_found (λ u v. v) form_c form_a (uint h.0) h.1 one two in
        after_found (together (λ u v. v) form_c form_a) h.1 (bare h.1) (type_of_validif p) both (rw h.5 refl) ∙ ap is_found (sym h.6)

    pub found_types : (es : Expressions) (ts : List DataType) → HaveTypes scope es ts → expression_types scope es ≡ is_found ts
    found_types no_expressions ts h = ap is_found (sym h)
    found_types (expression e es) ts h =
        together_found (λ u us. u ∷ us) (expression_type scope e) (expression_types scope es) h.0 h.1 (found_type e h.0 h.2) (found_types es h.1 h.3)
        ∙ ap is_found (sym h.4)

    pub found_parts : (p : Place) (r s : Reached) (ps : Parts) → Leads scope r ps s → along_parts scope p (is_found r) ps ≡ is_found s
    found_parts p r s no_parts h = ap is_found (sym h)
    found_parts p r s (subfield first q x rest) h =
        ap (λ c. along_parts scope p c rest) (after_found (is_found r) r (at_field x r h.0) (to_field p x) refl (field_says p x r h.0 h.1))
        ∙ found_parts p (at_field x r h.0) s rest h.2
    found_parts p r s (subindex first q i rest) h =
        ap (λ c. along_parts scope p c rest) (after_found (is_found r) r (at_element i r h.0) (to_index p i) refl (index_says p i r h.0 h.1 h.2 h.3))
        ∙ found_parts p (at_element i r h.0) s rest h.4
    found_parts p r s (subaccess first e rest) h =
        let index = condition_form (place_of e) (expression_type scope e) in
        let one = found_condition e h.0 (found_type e (uint h.0) h.3) in
        let both = together_found (λ u v. u) (is_found r) index r (uint h.0) refl one in
        ap (λ c. along_parts scope p c rest) (after_found (together (λ u v. u) (is_found r) index) r (at_any r (h.1, h.2)) (to_any p) both (any_says p r (h.1, h.2) h.4))
        ∙ found_parts p (at_any r (h.1, h.2)) s rest h.5

  pub found_sink : (s : SinkReference) (r : Reached) → Reaches scope s r → reaching scope s ≡ is_found r
  found_sink s r h = ap (λ c. along_parts scope s.place c s.parts) (found_root s.name h.0 h.1) ∙ found_parts s.place h.0 r s.parts h.2
