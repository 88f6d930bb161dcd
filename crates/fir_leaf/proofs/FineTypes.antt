-- Where no field is declared twice in the types of a scope, none is in the types of what references reach, nor in those of expressions.
use Rattle.std.proofs.Common.{◌≡◌, ℕ, List, [], ◌∷◌, true, false, Option, Some, None, refl, sym, subst, inl, inr, ⊎_elim}
use Rattle.std.specs.Str.{bytes_eq}
use Rattle.fir_base.specs.Lists.{In}
use Rattle.fir_ast.specs.Types.{DataType, bundle, vector, Fields, no_fields, field}
use Rattle.fir_ast.specs.Expressions.{Expression, reference, literal, operation, mux, validif, Parts, no_parts, subfield, subindex, subaccess}
use Rattle.fir_ast.specs.Statements.{SinkReference}
use Rattle.fir_meaning.specs.Reaching.{Reached, known_reached, at_field, at_element, at_any, field_of_type, vector_of_type}
use Rattle.fir_meaning.specs.ResetJoins.{type_of_known}
use Rattle.fir_meaning.specs.TypeKinds.{FieldFound, field_named}
use Rattle.fir_meaning.specs.TypedScopes.{Known, TypedScope, known}
use Rattle.fir_meaning.specs.working.WellTyped.{HasType, Leads, Reaches}
use Rattle.fir_base.proofs.Members.{in_left}
use Rattle.fir_base.proofs.Tests.{chosen}
use Rattle.fir_meaning.proofs.FreshFields.{HasFreshFields, AreFresh, fresh_fields}
use Rattle.fir_leaf.specs.working.LeafLaws.{Begins, IsFine}
use Rattle.fir_leaf.proofs.AlikeTypes.{fresh_bare}
use Rattle.fir_leaf.proofs.NamedPlaces.{reached_type}
use Rattle.fir_leaf.proofs.SingleLeaves.{number_one, result_one}

-- parts of types
fresh_field : (fs : Fields) (x : List ℕ) (f : FieldFound) → field_named x fs ≡ Some f → AreFresh fs → HasFreshFields f.data_type
fresh_field no_fields x f h fresh = absurd (cc)
fresh_field (field p g y b t rest) x f h fresh =
    ⊎_elim
    (λ (c : (bytes_eq y x ≡ true) × (◌≡◌ {A = Option FieldFound} (Some (record { flip = g; data_type = t })) (Some f))).
    let is : record { flip = g; data_type = t } ≡ f = cc in
    subst (λ (z : FieldFound). HasFreshFields z.data_type) is fresh.1)
    (λ (c : (bytes_eq y x ≡ false) × (field_named x rest ≡ Some f)). fresh_field rest x f c.1 fresh.2)
    (chosen (bytes_eq y x) (Some (record { flip = g; data_type = t })) (field_named x rest) (Some f) h)

fresh_part : (t : DataType) (x : List ℕ) (f : FieldFound) → field_of_type x t ≡ Some f → HasFreshFields t → HasFreshFields f.data_type
fresh_part (bundle fs) x f h fresh = fresh_field fs x f h fresh
fresh_part t x f h fresh = absurd (cc)

fresh_element : (t u : DataType) (n : ℕ) → vector_of_type t ≡ Some (u, n) → HasFreshFields t → HasFreshFields u
fresh_element (vector t m) u n h fresh =
    let same : ◌≡◌ {A = DataType × ℕ} (t, m) (u, n) = cc in
    subst (λ (v : DataType × ℕ). HasFreshFields v.0) same fresh
fresh_element t u n h fresh = absurd (cc)

pub fresh_along : (scope : TypedScope) (ps : Parts) (begins reached : Reached) → Leads scope begins ps reached → HasFreshFields begins.data_type
    → HasFreshFields reached.data_type
fresh_along scope no_parts begins reached h fresh = subst (λ (z : Reached). HasFreshFields z.data_type) (sym h) fresh
fresh_along scope (subfield first q x rest) begins reached h fresh =
    fresh_along scope rest (at_field x begins h.0) reached h.2 (fresh_part begins.data_type x h.0 h.1 fresh)
fresh_along scope (subindex first q i rest) begins reached h fresh =
    fresh_along scope rest (at_element i begins h.0) reached h.4 (fresh_element begins.data_type h.0 h.1 h.2 fresh)
fresh_along scope (subaccess first e rest) begins reached h fresh =
    fresh_along scope rest (at_any begins (h.1, h.2)) reached h.5 (fresh_element begins.data_type h.1 h.2 h.4 fresh)

-- what a name stands for is in the scope
known_in : (scope : TypedScope) (name : List ℕ) (k : Known) → known scope name ≡ Some k → In scope k
known_in [] name k h = absurd (cc)
known_in (j ∷ js) name k h =
    ⊎_elim
    (λ (c : (bytes_eq j.name name ≡ true) × (◌≡◌ {A = Option Known} (Some j) (Some k))). let is : j ≡ k = cc in inl is)
    (λ (c : (bytes_eq j.name name ≡ false) × (known js name ≡ Some k)). inr (known_in js name k c.1))
    (chosen (bytes_eq j.name name) (Some j) (known js name) (Some k) h)

module _ (scope whole : TypedScope) (fine : IsFine whole) (front : Begins scope whole) where
  fresh_known : (k : Known) (t : DataType) → In scope k → k.data_type ≡ Some t → HasFreshFields t
  fresh_known k t m e =
      fresh_fields t (fine.fields k t (subst (λ (s : TypedScope). In s k) front.1 (in_left scope front.0 k m)) e)

  fresh_name : (name : List ℕ) (begins : Reached) → known_reached (known scope name) ≡ Some begins → HasFreshFields begins.data_type
  fresh_name name begins h = by (known scope name) refl (reached_type (known scope name) begins h)
    where
      by : (o : Option Known) → known scope name ≡ o → type_of_known o ≡ Some begins.data_type → HasFreshFields begins.data_type
      by None e t = absurd (cc)
      by (Some k) e t = fresh_known k begins.data_type (known_in scope name k e) t

  pub fine_reached : (s : SinkReference) (r : Reached) → Reaches scope s r → HasFreshFields r.data_type
  fine_reached s r h = fresh_along scope s.parts h.0 r h.2 (fresh_name s.name h.0 h.1)

  pub fine_type : (e : Expression) (t : DataType) → HasType scope e t → HasFreshFields t
  fine_type (reference p n ps) t h = subst HasFreshFields (sym h.4) (fresh_along scope ps h.0 h.1 h.3 (fresh_name n h.0 h.2))
  fine_type (literal l) t h = subst HasFreshFields (sym h) (number_one l.signed l.width).fresh
  fine_type (operation p op es ks) t h = subst HasFreshFields (sym h.5) (result_one op h.1).fresh
  fine_type (mux p c a b) t h = subst HasFreshFields (sym h.11) (fresh_bare h.1 (fine_type a h.1 h.4))
  fine_type (validif p c a) t h = subst HasFreshFields (sym h.6) (fresh_bare h.1 (fine_type a h.1 h.3))
