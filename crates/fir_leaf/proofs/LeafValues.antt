-- The terms of an expression, leaf by leaf, have the values that the tree's meaning gives by paths.
-- A reference's target stands for its aim, part by part; an index has one leaf, whose value both sides share.
use Rattle.std.proofs.Common.{◌≡◌, ℕ, List, [], ◌∷◌, Bool, map, refl, sym, ap, ◌∙◌, subst, Some}
use Rattle.fir_bits.specs.declared.types.NumTy.{NumTy}
use Rattle.fir_bits.specs.declared.values.Num.{Num}
use Rattle.fir_bits.specs.Operators.{outcome}
use Rattle.fir_ast.specs.Types.{DataType, uint}
use Rattle.fir_ast.specs.Expressions.{Expression, reference, literal, operation, mux, validif, Parts, no_parts, subfield, subindex, subaccess, Expressions, no_expressions, expression}
use Rattle.fir_ast.specs.Statements.{SinkReference}
use Rattle.fir_meaning.specs.Equivalence.{same_ground}
use Rattle.fir_meaning.specs.Values.{is_high}
use Rattle.fir_meaning.specs.ExpressionPlaces.{place_of}
use Rattle.fir_meaning.specs.OperationTypes.{operand_kinds, is_conversion}
use Rattle.fir_meaning.specs.Reaching.{Reached, known_reached, at_field, at_element, at_any, field_of_type, vector_of_type}
use Rattle.fir_meaning.specs.TypeLeaves.{type_leaves}
use Rattle.fir_meaning.specs.TypedScopes.{TypedScope, known}
use Rattle.fir_meaning.specs.working.WellTyped.{HasType, HaveTypes, Leads, Reaches}
use Rattle.fir_meaning.proofs.FreshFields.{HasFreshFields, fresh_fields}
use Rattle.fir_leaf.specs.working.LeafLaws.{numbered, Begins, IsFine, SameValues}
use Rattle.fir_meaning.specs.working.Leafed.{first_term, terms, target_along, operands, target_of}
use Rattle.fir_leaf.specs.working.Standing.{Stands}
use Rattle.fir_meaning.specs.working.Targets.{Target, named_target, field_target, field_target_at, element_target, element_target_at, picked_target, picked_target_at}
use Rattle.fir_meaning.specs.working.Terms.{terms_of}
use Rattle.fir_meaning.specs.working.TermValues.{eval, eval_each}
use Rattle.fir_meaning.specs.TreeAims.{Aim, named_aim, field_aim, element_aim, picked_aim}
use Rattle.fir_meaning.specs.TreeValues.{TypesByPath, ValuesByPath, aim_value, value, aim_along, operand_values, aim_of}
use Rattle.fir_leaf.proofs.AlikeTypes.{leaf_paths, bare_paths, fresh_from_bare, alike_types}
use Rattle.fir_leaf.proofs.FineTypes.{fine_type}
use Rattle.fir_leaf.proofs.NamedPlaces.{reached_type}
use Rattle.fir_leaf.proofs.SingleLeaves.{number_one, result_one, operand_one, kinds_apart}
use Rattle.fir_leaf.proofs.StandingTargets.{named_stands, field_stands, element_stands, picked_stands}
use Rattle.fir_leaf.proofs.TargetValues.{mapped_paths, first_same, chosen_paths, number_value, target_same, muxes_same, validifs_same}

-- a target that stands for an aim, both of a type
pub record Arrives (whole : TypedScope) (holds : TypesByPath) (env : ValuesByPath) (r : Target) (a : Aim) (t : DataType) : Type 0 where
  pub stands : Stands whole holds env r a
  pub data_type : r.data_type ≡ t

module _ (scope whole : TypedScope) (holds : TypesByPath) (env : ValuesByPath) (front : Begins scope whole) where
  -- the value of a condition or an index, and that of the first leaf of an operand
  abbrev FirstIsSame : Expression → Type 0
  FirstIsSame e = eval (numbered whole holds) (numbered whole env) (first_term (terms scope e)) ≡ value scope holds env e []

  first_is_same : (e : Expression) (t : DataType) → leaf_paths t ≡ [] ∷ []
      → map (number_value whole holds env) (terms scope e) ≡ map (value scope holds env e) (leaf_paths t) → FirstIsSame e
  first_is_same e t one h =
      first_same (number_value whole holds env) (terms scope e) (value scope holds env e []) (h ∙ ap (map (value scope holds env e)) one)

  pub name_arrives : (name : List ℕ) (begins : Reached) → known_reached (known scope name) ≡ Some begins
      → Arrives whole holds env (named_target scope name) (named_aim scope name) begins.data_type
  name_arrives name begins h =
      let is = reached_type (known scope name) begins h in
      record { stands = named_stands whole holds env scope name begins.data_type front is; data_type = rw is refl }

  mutual
    pub values_same : (e : Expression) (t : DataType) → HasType scope e t → HasFreshFields t
        → map (eval (numbered whole holds) (numbered whole env)) (terms scope e) ≡ map (value scope holds env e) (leaf_paths t)
    values_same (reference p n ps) t h fresh =
        let r = target_along scope (named_target scope n) ps in
        let a = aim_along scope holds env (named_aim scope n) ps in
        let to = parts_stand ps h.0 h.1 (named_target scope n) (named_aim scope n) h.3 (name_arrives n h.0 h.2) in
        let is : r.data_type ≡ t = to.data_type ∙ sym h.4 in
        target_same whole holds env r a to.stands (subst HasFreshFields (sym is) fresh) ∙ ap (λ u. map (aim_value holds env a) (leaf_paths u)) is
    values_same (literal l) t h fresh = rw (h, (number_one l.signed l.width).path) refl
    values_same (operation p op es ks) t h fresh =
        rw (h.5, (result_one op h.1).path) (ap (λ vs. outcome op vs ks ∷ []) (operands_same es h.0 (is_conversion op) h.1 h.2 h.3))
    values_same (mux p c a b) t h fresh =
        let u = h.1 in
        let v = h.2 in
        let arms = alike_types same_ground u v h.10 in
        let fresh_u = fresh_from_bare u (subst HasFreshFields h.11 fresh) in
        let paths : leaf_paths t ≡ leaf_paths u = ap leaf_paths h.11 ∙ bare_paths u in
        let condition : FirstIsSame c = first_is_same c (uint h.0) refl (values_same c (uint h.0) h.3 tt) in
        let first = values_same a u h.4 fresh_u in
        let second = values_same b v h.7 (arms.fresh fresh_u) ∙ ap (map (value scope holds env b)) (sym arms.path) in
        muxes_same whole holds env (first_term (terms scope c)) (terms scope a) (terms scope b)
        ∙ rw (condition, first, second, paths)
        (chosen_paths (is_high (value scope holds env c [] ∷ [])) (value scope holds env a) (value scope holds env b) (leaf_paths u))
    values_same (validif p c a) t h fresh =
        let u = h.1 in
        let paths : leaf_paths t ≡ leaf_paths u = ap leaf_paths h.6 ∙ bare_paths u in
        let condition : FirstIsSame c = first_is_same c (uint h.0) refl (values_same c (uint h.0) h.2 tt) in
        let inner = values_same a u h.3 (fresh_from_bare u (subst HasFreshFields h.6 fresh)) in
        validifs_same whole holds env (first_term (terms scope c)) (terms scope a) (value scope holds env a) (leaf_paths u) inner
        ∙ rw (condition, paths) refl

    pub parts_stand : (ps : Parts) (begins reached : Reached) (r : Target) (a : Aim) → Leads scope begins ps reached
        → Arrives whole holds env r a begins.data_type → Arrives whole holds env (target_along scope r ps) (aim_along scope holds env a ps) reached.data_type
    parts_stand no_parts begins reached r a h s =
        record { stands = s.stands; data_type = s.data_type ∙ ap (λ (z : Reached). z.data_type) (sym h) }
    parts_stand (subfield first q x rest) begins reached r a h s =
        let found : field_of_type x r.data_type ≡ Some h.0 = ap (field_of_type x) s.data_type ∙ h.1 in
        parts_stand rest (at_field x begins h.0) reached (field_target x r) (field_aim x a) h.2
        (record {
          stands = field_stands whole holds env x h.0 r a found s.stands;
          data_type = ap (λ o. (field_target_at x r o).data_type) found;
        })
    parts_stand (subindex first q i rest) begins reached r a h s =
        let found : vector_of_type r.data_type ≡ Some (h.0, h.1) = ap vector_of_type s.data_type ∙ h.2 in
        parts_stand rest (at_element i begins h.0) reached (element_target i r) (element_aim i a) h.4
        (record {
          stands = element_stands whole holds env i h.0 h.1 r a found h.3 s.stands;
          data_type = ap (λ o. (element_target_at i r o).data_type) found;
        })
    parts_stand (subaccess first e rest) begins reached r a h s =
        let found : vector_of_type r.data_type ≡ Some (h.1, h.2) = ap vector_of_type s.data_type ∙ h.4 in
        let term = first_term (terms scope e) in
        let index : FirstIsSame e = first_is_same e (uint h.0) refl (values_same e (uint h.0) h.3 tt) in
        parts_stand rest (at_any begins (h.1, h.2)) reached (picked_target (place_of e) term r) (picked_aim (value scope holds env e []).value.number a) h.5
        (record {
          stands =
              subst (λ (v : Num). Stands whole holds env (picked_target (place_of e) term r) (picked_aim v.value.number a)) index
              (picked_stands whole holds env (place_of e) term h.1 h.2 r a found s.stands);
          data_type = ap (λ o. (picked_target_at (place_of e) term r o).data_type) found;
        })

    operands_same : (es : Expressions) (ts : List DataType) (resets : Bool) (kinds : List NumTy) → HaveTypes scope es ts
        → operand_kinds resets ts ≡ Some kinds
        → eval_each (numbered whole holds) (numbered whole env) (terms_of (operands scope es)) ≡ operand_values scope holds env es
    operands_same no_expressions ts resets kinds h k = refl
    operands_same (expression e es) ts resets kinds h k =
        let apart = kinds_apart resets h.0 h.1 kinds (subst (λ us. operand_kinds resets us ≡ Some kinds) h.4 k) in
        let one = operand_one resets h.0 apart.first apart.is_first in
        let operand : FirstIsSame e = first_is_same e h.0 one.path (values_same e h.0 h.2 one.fresh) in
        rw (operand, operands_same es h.1 resets apart.more h.3 apart.are_more) refl

  -- what a sink or a reference reaches
  pub reaches_stands : (s : SinkReference) (r : Reached) → Reaches scope s r → Arrives whole holds env (target_of scope s) (aim_of scope holds env s) r.data_type
  reaches_stands s r h = parts_stand s.parts h.0 r (named_target scope s.name) (named_aim scope s.name) h.2 (name_arrives s.name h.0 h.1)

  -- in a module without a fault of names every expression that has a type has these values
  pub fine_values_same : IsFine whole → (e : Expression) (t : DataType) → HasType scope e t
      → map (eval (numbered whole holds) (numbered whole env)) (terms scope e) ≡ map (λ l. value scope holds env e l.path) (type_leaves t)
  fine_values_same fine e t h = values_same e t h (fine_type scope whole fine front e t h) ∙ mapped_paths (value scope holds env e) (type_leaves t)

pub same_values : SameValues
same_values scope whole holds env e t front h fields =
    values_same scope whole holds env front e t h (fresh_fields t fields) ∙ mapped_paths (value scope holds env e) (type_leaves t)
