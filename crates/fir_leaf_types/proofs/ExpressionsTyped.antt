-- Each term of an expression has the type that its leaf of the sized type holds, where no fault of types or widths stands in the expression.
use Rattle.std.proofs.Common.{◌≡◌, ℕ, ◌+◌, ◌≤◌, min, List, [], ◌∷◌, ◌++◌, Bool, true, false, ◌==◌, if◌then◌else◌, map, slice_get, Option, Some, None, refl, sym, ap, ◌∙◌, subst, inl, inr, arith}
use Rattle.std.specs.Prelude.{codes, slice_index}
use Rattle.std.proofs.lemmas.Bool.{eqb-true}
use Rattle.fir_base.specs.Lists.{In}
use Rattle.fir_base.proofs.Empty.{empty_left, empty_right}
use Rattle.fir_bits.specs.declared.operators.PrimOp.{PrimOp}
use Rattle.fir_bits.specs.declared.types.NumTy.{NumTy}
use Rattle.fir_bits.specs.Literals.{least_width}
use Rattle.fir_bits.specs.OperatorWords.{operator_word}
use Rattle.fir_bits.specs.Types.{is_legal}
use Rattle.fir_ast.specs.declared.expressions.Literal.{Literal}
use Rattle.fir_ast.specs.declared.place.Place.{Place}
use Rattle.fir_ast.specs.Types.{DataType, uint, sint, clock, reset, async_reset, bundle, vector}
use Rattle.fir_ast.specs.Expressions.{Expression, reference, literal, operation, mux, validif, Parts, no_parts, subfield, subindex, subaccess, Expressions, no_expressions, expression}
use Rattle.fir_ast.specs.Statements.{SinkReference}
use Rattle.fir_ast.specs.Circuits.{CircuitTree}
use Rattle.fir_meaning.specs.LeafPaths.{named}
use Rattle.fir_meaning.specs.ExpressionPlaces.{place_of}
use Rattle.fir_meaning.specs.OperationTypes.{is_conversion, operand_kinds}
use Rattle.fir_meaning.specs.Reaching.{Reached, known_reached, at_field, at_element, at_any, field_of_type, vector_of_type}
use Rattle.fir_meaning.specs.Values.{literal_type}
use Rattle.fir_meaning.specs.SizeFaults.{wrong_condition, wrong_integers}
use Rattle.fir_meaning.specs.TypeKinds.{bare, is_numeric}
use Rattle.fir_meaning.specs.TypedScopes.{TypedScope, known}
use Rattle.fir_meaning.specs.WidthExpressions.{Width, Widths, width_under}
use Rattle.fir_meaning.specs.WidthExpressions as width
use Rattle.fir_meaning.specs.SizedTypes.{Sized, unsigned, signed, clock_scalar, reset_scalar, async_scalar, scalar, sized_bundle, sized_vector, bare_type, sized_named, sized_found, fields_in, element_in}
use Rattle.fir_meaning.specs.SizedOperations.{number_scalar, width_in, first_sized, operation_width, result_scalar, is_signed}
use Rattle.fir_meaning.specs.SizedScopes.{SizedScope, literal_width, sized_in, sized_part, sized_type, sized_types, sink_expression}
use Rattle.fir_meaning.specs.WidthWalk.{shown_within, shown_within_parts, shown_within_each}
use Rattle.fir_meaning.specs.OverFaults.{over_rule, first_path, expression_over}
use Rattle.fir_meaning.specs.LegalFaults.{legal_rule, condition_faults, form_faults, operation_faults}
use Rattle.fir_meaning.specs.working.Terms.{Term, terms_of}
use Rattle.fir_meaning.specs.working.Terms as over
use Rattle.fir_meaning.specs.working.Targets.{Target, leaves_ahead, named_target, field_target, field_target_at, element_target, element_target_at, picked_target, picked_target_at}
use Rattle.fir_meaning.specs.working.Leafed.{first_term, terms, target_along, operands, target_of}
use Rattle.fir_meaning.specs.LeafTypes.{LeafType, number}
use Rattle.fir_meaning.specs.HeldTypes.{held_types}
use Rattle.fir_meaning.specs.working.WellTyped.{HasType, HaveTypes, Leads, Reaches}
use Rattle.fir_leaf.proofs.NamedPlaces.{reached_type}
use Rattle.fir_leaf.proofs.SingleLeaves.{kinds_apart}
use Rattle.fir_leaf_types.specs.working.TypedTerms.{IsNarrow, one_bit}
use Rattle.fir_leaf_types.specs.working.TypedTerms as typed
use Rattle.fir_leaf_types.proofs.HeldKinds.{numeric_holds}
use Rattle.fir_leaf_types.proofs.StandingWidths.{Present}
use Rattle.fir_leaf_types.proofs.StandingTypedTargets.{HaveEach, StandsTyped, field_typed, element_typed, picked_typed, target_typed}
use Rattle.fir_leaf_types.proofs.OperandTypes.{ResetIsOne, operand_holds, signs, OperandsHold, operation_holds, number_holds, number_resets}
use Rattle.fir_leaf_types.proofs.ChoiceTypes.{arms_typed, guarded_holds, numeric_bare, validifs_typed}
use Rattle.fir_leaf_types.proofs.ScopesStandTyped.{ScopeStands, held_along, named_stands, named_holds}
use Rattle.fir_leaf_types.proofs.NarrowHolds.{narrow_by_faults, form_within}

-- the term of a type of one leaf
pub first_has : (held : ℕ → LeafType) (ts : List Term) (h : LeafType) (hs : List LeafType) → HaveEach held ts (h ∷ hs) → typed.HasType held (first_term ts) h
first_has held [] h hs e = absurd e
first_has held (t ∷ ts) h hs e = e.0

unsigned_scalar : (s : Sized) (width : Option ℕ) → bare_type s ≡ bare (uint width) → (x : Width) × (s ≡ scalar unsigned x)
unsigned_scalar (scalar unsigned x) width e = (x, refl)
unsigned_scalar (scalar signed x) width e = absurd (cc)
unsigned_scalar (scalar clock_scalar x) width e = absurd (cc)
unsigned_scalar (scalar reset_scalar x) width e = absurd (cc)
unsigned_scalar (scalar async_scalar x) width e = absurd (cc)
unsigned_scalar (sized_bundle fs) width e = absurd (cc)
unsigned_scalar (sized_vector t n) width e = absurd (cc)

present_resets : (w : Widths) (t : DataType) (s : Sized) → Present w t s → ResetIsOne w s
present_resets w reset (scalar reset_scalar e) h = h
present_resets w async_reset (scalar async_scalar e) h = h
present_resets w (uint a) (scalar unsigned e) h = tt
present_resets w (sint a) (scalar signed e) h = tt
present_resets w clock (scalar clock_scalar e) h = tt
present_resets w (bundle fs) (sized_bundle gs) h = tt
present_resets w (vector t n) (sized_vector s m) h = tt
present_resets w t s h = absurd h

-- of what is numeric no reset is left
numeric_resets : (w : Widths) (s : Sized) (t : DataType) → bare_type s ≡ bare t → is_numeric t ≡ true → ResetIsOne w s
numeric_resets w (scalar unsigned x) t e h = tt
numeric_resets w (scalar signed x) t e h = tt
numeric_resets w (scalar clock_scalar x) t e h = tt
numeric_resets w (scalar reset_scalar x) t e h =
    let one : is_numeric (bare t) ≡ true = numeric_bare t ∙ h in let none : is_numeric reset ≡ true = ap is_numeric e ∙ one in absurd (cc)
numeric_resets w (scalar async_scalar x) t e h =
    let one : is_numeric (bare t) ≡ true = numeric_bare t ∙ h in let none : is_numeric async_reset ≡ true = ap is_numeric e ∙ one in absurd (cc)
numeric_resets w (sized_bundle fs) t e h = tt
numeric_resets w (sized_vector u n) t e h = tt

-- a condition that shows no fault has one bit
one_wide : (w : Widths) (p : Place) (x : Width) → condition_faults w p (scalar unsigned x) ≡ [] → width_under x w ≡ 1
one_wide w p x h = by (width_under x w == 1) refl h
  where
    by : (b : Bool) → (width_under x w == 1) ≡ b → (if b then [] else wrong_condition p (width_under x w) ∷ []) ≡ [] → width_under x w ≡ 1
    by true e k = eqb-true (width_under x w) 1 e
    by false e k = absurd (cc)

-- an operation that shows no fault is legal
legal_integers : (p : Place) (op : PrimOp) (width : ℕ) (ks : List ℕ) → operation_faults p op width ks ≡ []
    → is_legal op width (slice_index ks 0) (slice_index ks 1) ≡ true
legal_integers p op width ks h = by (is_legal op width (slice_index ks 0) (slice_index ks 1)) refl h
  where
    by : (b : Bool) → is_legal op width (slice_index ks 0) (slice_index ks 1) ≡ b → (if b then [] else wrong_integers p op (width ∷ ks) ∷ []) ≡ []
        → is_legal op width (slice_index ks 0) (slice_index ks 1) ≡ true
    by true e k = e
    by false e k = absurd (cc)

literal_holds : (w : Widths) (l : Literal) → min (literal_width l) 129 ≤ 128
    → number (literal_type l) ≡ number (record { signed = l.signed; width = min (literal_width l) 129 })
literal_holds w l h = by l.width refl h
  where
    by : (o : Option ℕ) → l.width ≡ o → min (literal_width l) 129 ≤ 128
        → number (literal_type l) ≡ number (record { signed = l.signed; width = min (literal_width l) 129 })
    by None e k =
        let least = least_width l.signed l.negative l.magnitude in
        let long : min least 129 ≤ 128 = rw e at k in
        let same : least ≡ min least 129 = omega (arith, long) in
        rw e (ap (λ n. number (record { signed = l.signed; width = n })) same)
    by (Some n) e k = rw e refl

-- what is known of a scope: its names stand with their sized types, and leaves hold what these do
pub record KnowsLeaves (held : ℕ → LeafType) (w : Widths) (scope : TypedScope) (sized : SizedScope) : Type 0 where
  pub stands : ScopeStands w scope sized
  pub holds : (x : ℕ) (h : LeafType) → slice_get (held_along w scope sized) x ≡ Some h → held x ≡ h
  pub shape : (e : Expression) (t : DataType) → HasType scope e t → bare_type (sized_type sized e) ≡ bare t

module _ (c : CircuitTree) (held : ℕ → LeafType) (w : Widths) (scope : TypedScope) (sized : SizedScope) (knows : KnowsLeaves held w scope sized) where
  -- an expression whose terms have types
  pub record IsTermed (e : Expression) : Type 0 where
    pub terms : HaveEach held (terms scope e) (held_types w (sized_type sized e))
    pub resets : ResetIsOne w (sized_type sized e)

  -- a UInt has one term
  pub record IsUnsigned (e : Expression) : Type 0 where
    pub width : Width
    pub is : sized_type sized e ≡ scalar unsigned width
    pub first : typed.HasType held (first_term (terms scope e)) (number (record { signed = false; width = width_under width w }))

  pub unsigned_termed : (e : Expression) (width : Option ℕ) → HasType scope e (uint width) → IsTermed e → IsUnsigned e
  unsigned_termed e width h t =
      let u = unsigned_scalar (sized_type sized e) width (knows.shape e (uint width) h) in
      record {
        width = u.0;
        is = u.1;
        first =
            first_has held (terms scope e) (number (record { signed = false; width = width_under u.0 w })) []
            (subst (λ s. HaveEach held (terms scope e) (held_types w s)) u.1 t.terms);
      }

  pub one_bit_wide : (e : Expression) (u : IsUnsigned e) → condition_faults w (place_of e) (sized_type sized e) ≡ [] → width_under u.width w ≡ 1
  one_bit_wide e u h = one_wide w (place_of e) u.width (subst (λ s. condition_faults w (place_of e) s ≡ []) u.is h)

  pub condition_termed : (e : Expression) (u : IsUnsigned e) → condition_faults w (place_of e) (sized_type sized e) ≡ []
      → typed.HasType held (first_term (terms scope e)) one_bit
  condition_termed e u h =
      subst (λ n. typed.HasType held (first_term (terms scope e)) (number (record { signed = false; width = n }))) (one_bit_wide e u h) u.first

  guard_within : (e : Expression) (u : IsUnsigned e) → condition_faults w (place_of e) (sized_type sized e) ≡ []
      → width_under (width_in (sized_type sized e)) w ≤ 128
  guard_within e u h = let one = one_bit_wide e u h in rw u.is (omega (arith, one))

  name_typed : (name : List ℕ) (begins : Reached) → known_reached (known scope name) ≡ Some begins
      → StandsTyped held w (named_target scope name) (sized_in sized name)
  name_typed name begins h =
      let is = reached_type (known scope name) begins h in
      let stand = named_stands w scope sized name begins.data_type knows.stands is in
      rw is (record {
        shape = stand.shape;
        picks = tt;
        leaf = λ b k x e there.
            let first : leaves_ahead scope name ≡ b = cc in
            let mine : held (b + k) ≡ x =
            ap (λ n. held (n + k)) (sym first) ∙ knows.holds (leaves_ahead scope name + k) x
            (named_holds w scope sized name begins.data_type knows.stands is k x there) in
            record { first = mine; each = λ y m. alone (b + k) y x mine m };
        present = stand.present;
        absent = λ e. absurd (cc);
      })
    where
      alone : (z y : ℕ) (x : LeafType) → held z ≡ x → In (z ∷ []) y → held y ≡ x
      alone z y x e (inl same) = ap held (sym same) ∙ e
      alone z y x e (inr m) = absurd m

  -- a target of a type, with the type that the target has
  pub record TargetTyped (r : Target) (s : Sized) (t : DataType) : Type 0 where
    pub stands : StandsTyped held w r s
    pub data_type : r.data_type ≡ t

  literal_termed : (l : Literal) → min (literal_width l) 129 ≤ 128 → IsTermed (literal l)
  literal_termed l within =
      let e = width.known (literal_width l) in
      let is : held_types w (scalar (number_scalar l.signed) e) ≡ number (literal_type l) ∷ [] =
      ap (λ x. x ∷ []) (number_holds w l.signed e ∙ sym (literal_holds w l within)) in
      let bound : (literal_type l).width ≤ 128 =
      subst (λ (x : LeafType). IsNarrow x) (sym (literal_holds w l within)) within in
      record {
        terms = subst (HaveEach held (over.literal l ∷ [])) (sym is) ((refl, bound), tt);
        resets = number_resets w l.signed e;
      }

  -- operands, and what they hold
  pub record AreOperands (es : Expressions) (kinds : List NumTy) : Type 0 where
    pub types : List NumTy
    pub holds : OperandsHold w (sized_types sized es) types
    pub signs : signs types ≡ signs kinds
    pub terms : typed.HaveTypes held (terms_of (operands scope es)) types

  mutual
    pub expression_typed : (e : Expression) (t : DataType) → HasType scope e t → shown_within (over_rule w) sized e ≡ []
        → shown_within (legal_rule c w) sized e ≡ [] → IsTermed e
    expression_typed (reference p n ps) t h within legal =
        let inside = empty_left (shown_within_parts (over_rule w) sized ps) (expression_over w sized (reference p n ps)) within in
        let here = empty_right (shown_within_parts (over_rule w) sized ps) (expression_over w sized (reference p n ps)) within in
        let begins = reached_type (known scope n) h.0 h.2 in
        let r =
        parts_typed ps h.0 h.1 (named_target scope n) (sized_in sized n) h.3 inside
        (empty_left (shown_within_parts (legal_rule c w) sized ps) [] legal)
        (record { stands = name_typed n h.0 h.2; data_type = rw begins refl }) in
        record {
          terms =
              target_typed held w (target_along scope (named_target scope n) ps) (sized_part (sized_in sized n) ps) r.stands
              (narrow_by_faults w p (first_path (named n ∷ []) ps) (sized_part (sized_in sized n) ps) here);
          resets = present_resets w (target_along scope (named_target scope n) ps).data_type (sized_part (sized_in sized n) ps) r.stands.present;
        }
    expression_typed (literal l) t h within legal =
        literal_termed l (form_within w l.place (codes "literal") (number_scalar l.signed) (width.known (literal_width l)) within)
    expression_typed (operation p op es ks) t h within legal =
        let own = operator_word op in
        let over_own = empty_right (shown_within_each (over_rule w) sized es) (expression_over w sized (operation p op es ks)) within in
        let legal_own = empty_right (shown_within_each (legal_rule c w) sized es) (form_faults w sized (operation p op es ks)) legal in
        let each =
        operands_typed es h.0 h.1 (is_conversion op) h.2 h.3
        (empty_left (shown_within_each (over_rule w) sized es) (expression_over w sized (operation p op es ks)) within)
        (empty_left (shown_within_each (legal_rule c w) sized es) (form_faults w sized (operation p op es ks)) legal) in
        let holds =
        operation_holds w op (sized_types sized es) ks each.types h.1 each.holds each.signs h.4
        (form_within w p own (result_scalar op (is_signed (first_sized (sized_types sized es)))) (operation_width op (sized_types sized es) ks) over_own)
        (legal_integers p op (width_under (width_in (first_sized (sized_types sized es))) w) ks legal_own) in
        record {
          terms =
              subst (HaveEach held (over.operation op (terms_of (operands scope es)) ks ∷ [])) (sym holds.holds)
              ((each.types, holds.result, each.terms, holds.typed, refl), tt);
          resets = holds.resets;
        }
    expression_typed (mux p x a b) t h within legal =
        let wx = shown_within (over_rule w) sized x in
        let wa = shown_within (over_rule w) sized a in
        let wb = shown_within (over_rule w) sized b in
        let lx = shown_within (legal_rule c w) sized x in
        let lc = condition_faults w (place_of x) (sized_type sized x) in
        let la = shown_within (legal_rule c w) sized a in
        let lb = shown_within (legal_rule c w) sized b in
        let within_b = empty_left (((wx ++ []) ++ wa) ++ wb) (expression_over w sized (mux p x a b)) within in
        let within_a = empty_left ((wx ++ []) ++ wa) wb within_b in
        let within_x = empty_left (wx ++ []) wa within_a in
        let legal_b = empty_left (((lx ++ lc) ++ la) ++ lb) [] legal in
        let legal_a = empty_left ((lx ++ lc) ++ la) lb legal_b in
        let legal_x = empty_left (lx ++ lc) la legal_a in
        let condition = unsigned_termed x h.0 h.3 (expression_typed x (uint h.0) h.3 (empty_left wx [] within_x) (empty_left lx lc legal_x)) in
        let first = expression_typed a h.1 h.4 (empty_right (wx ++ []) wa within_a) (empty_right (lx ++ lc) la legal_a) in
        let second = expression_typed b h.2 h.7 (empty_right ((wx ++ []) ++ wa) wb within_b) (empty_right ((lx ++ lc) ++ la) lb legal_b) in
        let shape = knows.shape a h.1 h.4 in
        record {
          terms =
              arms_typed held w (width_in (sized_type sized x)) (first_term (terms scope x)) (terms scope a) (terms scope b) (sized_type sized a)
              (sized_type sized b) h.1 h.2 (guard_within x condition (empty_right lx lc legal_x))
              (condition_termed x condition (empty_right lx lc legal_x)) first.terms second.terms shape (knows.shape b h.2 h.7) h.10
              (numeric_holds w (sized_type sized a) h.1 shape h.6) h.6;
          resets =
              numeric_resets w (sized_type sized (mux p x a b)) t (knows.shape (mux p x a b) t h) (ap is_numeric h.11 ∙ numeric_bare h.1 ∙ h.6);
        }
    expression_typed (validif p x a) t h within legal =
        let wx = shown_within (over_rule w) sized x in
        let wa = shown_within (over_rule w) sized a in
        let lx = shown_within (legal_rule c w) sized x in
        let lc = condition_faults w (place_of x) (sized_type sized x) in
        let la = shown_within (legal_rule c w) sized a in
        let within_a = empty_left ((wx ++ []) ++ wa) (expression_over w sized (validif p x a)) within in
        let within_x = empty_left (wx ++ []) wa within_a in
        let legal_a = empty_left ((lx ++ lc) ++ la) [] legal in
        let legal_x = empty_left (lx ++ lc) la legal_a in
        let condition = unsigned_termed x h.0 h.2 (expression_typed x (uint h.0) h.2 (empty_left wx [] within_x) (empty_left lx lc legal_x)) in
        let value = expression_typed a h.1 h.3 (empty_right (wx ++ []) wa within_a) (empty_right (lx ++ lc) la legal_a) in
        let shape = knows.shape a h.1 h.3 in
        record {
          terms =
              subst (HaveEach held (map (over.validif (first_term (terms scope x))) (terms scope a)))
              (sym (guarded_holds w (width_in (sized_type sized x)) (guard_within x condition (empty_right lx lc legal_x)) (sized_type sized a)))
              (validifs_typed held (first_term (terms scope x)) (terms scope a) (held_types w (sized_type sized a))
              (condition_termed x condition (empty_right lx lc legal_x)) value.terms (numeric_holds w (sized_type sized a) h.1 shape h.5));
          resets =
              numeric_resets w (sized_type sized (validif p x a)) t (knows.shape (validif p x a) t h) (ap is_numeric h.6 ∙ numeric_bare h.1 ∙ h.5);
        }

    parts_typed : (ps : Parts) (begins reached : Reached) (r : Target) (s : Sized) → Leads scope begins ps reached
        → shown_within_parts (over_rule w) sized ps ≡ [] → shown_within_parts (legal_rule c w) sized ps ≡ [] → TargetTyped r s begins.data_type
        → TargetTyped (target_along scope r ps) (sized_part s ps) reached.data_type
    parts_typed no_parts begins reached r s h within legal k =
        record { stands = k.stands; data_type = k.data_type ∙ ap (λ (z : Reached). z.data_type) (sym h) }
    parts_typed (subfield first q x rest) begins reached r s h within legal k =
        let found : field_of_type x r.data_type ≡ Some h.0 = ap (field_of_type x) k.data_type ∙ h.1 in
        parts_typed rest (at_field x begins h.0) reached (field_target x r) (sized_found (sized_named x (fields_in s))) h.2 within legal
        (record { stands = field_typed held w x h.0 r s found k.stands; data_type = ap (λ o. (field_target_at x r o).data_type) found })
    parts_typed (subindex first q i rest) begins reached r s h within legal k =
        let found : vector_of_type r.data_type ≡ Some (h.0, h.1) = ap vector_of_type k.data_type ∙ h.2 in
        parts_typed rest (at_element i begins h.0) reached (element_target i r) (element_in s) h.4 within legal
        (record { stands = element_typed held w i h.0 h.1 r s found h.3 k.stands; data_type = ap (λ o. (element_target_at i r o).data_type) found })
    parts_typed (subaccess first e rest) begins reached r s h within legal k =
        let found : vector_of_type r.data_type ≡ Some (h.1, h.2) = ap vector_of_type k.data_type ∙ h.4 in
        let index = first_term (terms scope e) in
        let u =
        unsigned_termed e h.0 h.3
        (expression_typed e (uint h.0) h.3 (empty_left (shown_within (over_rule w) sized e) (shown_within_parts (over_rule w) sized rest) within)
        (empty_left (shown_within (legal_rule c w) sized e) (shown_within_parts (legal_rule c w) sized rest) legal)) in
        parts_typed rest (at_any begins (h.1, h.2)) reached (picked_target (place_of e) index r) (element_in s) h.5
        (empty_right (shown_within (over_rule w) sized e) (shown_within_parts (over_rule w) sized rest) within)
        (empty_right (shown_within (legal_rule c w) sized e) (shown_within_parts (legal_rule c w) sized rest) legal)
        (record {
          stands = picked_typed held w (place_of e) index (width_under u.width w) h.1 h.2 r s found u.first k.stands;
          data_type = ap (λ o. (picked_target_at (place_of e) index r o).data_type) found;
        })

    operands_typed : (es : Expressions) (ts : List DataType) (kinds : List NumTy) (resets : Bool) → HaveTypes scope es ts → operand_kinds resets ts ≡ Some kinds
        → shown_within_each (over_rule w) sized es ≡ [] → shown_within_each (legal_rule c w) sized es ≡ [] → AreOperands es kinds
    operands_typed no_expressions ts kinds resets h k within legal =
        let kindless : operand_kinds resets [] ≡ Some kinds = subst (λ us. operand_kinds resets us ≡ Some kinds) h k in
        let none : [] ≡ kinds = cc in
        record { types = []; holds = tt; signs = ap signs none; terms = tt }
    operands_typed (expression e es) ts kinds resets h k within legal =
        let here : operand_kinds resets (h.0 ∷ h.1) ≡ Some kinds = subst (λ us. operand_kinds resets us ≡ Some kinds) h.4 k in
        let apart = kinds_apart resets h.0 h.1 kinds here in
        let found : Some (apart.first ∷ apart.more) ≡ Some kinds = rw (apart.is_first, apart.are_more) at here in
        let same : apart.first ∷ apart.more ≡ kinds = cc in
        let we = shown_within (over_rule w) sized e in
        let wes = shown_within_each (over_rule w) sized es in
        let le = shown_within (legal_rule c w) sized e in
        let les = shown_within_each (legal_rule c w) sized es in
        let one = expression_typed e h.0 h.2 (empty_left we wes within) (empty_left le les legal) in
        let more = operands_typed es h.1 apart.more resets h.3 apart.are_more (empty_right we wes within) (empty_right le les legal) in
        let u = operand_holds w resets (sized_type sized e) h.0 apart.first (knows.shape e h.0 h.2) apart.is_first one.resets in
        record {
          types = u.0 ∷ more.types;
          holds = (u.1.sign, u.1.width, more.holds);
          signs = rw (u.1.of_kind, more.signs) (ap signs same);
          terms = (
            first_has held (terms scope e) (number u.0) [] (subst (HaveEach held (terms scope e)) u.1.holds one.terms),
            more.terms,
          );
        }

  -- a sink, with what its terms give back
  pub sink_typed : (s : SinkReference) (r : Reached) → Reaches scope s r → shown_within (over_rule w) sized (sink_expression s) ≡ []
      → shown_within (legal_rule c w) sized (sink_expression s) ≡ []
      → TargetTyped (target_of scope s) (sized_type sized (sink_expression s)) r.data_type
  sink_typed s r h within legal =
      let begins = reached_type (known scope s.name) h.0 h.1 in
      parts_typed s.parts h.0 r (named_target scope s.name) (sized_in sized s.name) h.2
      (empty_left (shown_within_parts (over_rule w) sized s.parts) (expression_over w sized (sink_expression s)) within)
      (empty_left (shown_within_parts (legal_rule c w) sized s.parts) [] legal)
      (record { stands = name_typed s.name h.0 h.1; data_type = rw begins refl })

  pub sink_termed : (s : SinkReference) (r : Reached) → Reaches scope s r → shown_within (over_rule w) sized (sink_expression s) ≡ []
      → shown_within (legal_rule c w) sized (sink_expression s) ≡ [] → IsTermed (sink_expression s)
  sink_termed s r h within legal = expression_typed (sink_expression s) r.data_type (h.0, r, h.1, h.2, refl) within legal
