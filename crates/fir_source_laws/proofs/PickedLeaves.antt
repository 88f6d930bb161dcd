-- What an index picks by its value.
use Rattle.std.proofs.Common.{◌≡◌, ℕ, ◌<◌, ◌≤◌, List, [], nat_lt, Bool, true, false, if◌then◌else◌, Option, Some, None, refl, sym, ap, ◌∙◌, subst}
use Rattle.std.proofs.lemmas.Bool.{le-ltb, lt-ltb}
use Rattle.fir_ast.specs.Expressions.{Parts, no_parts, subaccess, subfield, subindex}
use Rattle.fir_ast.specs.Types.{DataType}
use Rattle.fir_meaning.specs.LeafPaths.{LeafPath, element, named}
use Rattle.fir_meaning.specs.Reaching.{field_of_type, vector_of_type}
use Rattle.fir_meaning.specs.TypeKinds.{FieldFound}
use Rattle.fir_meaning.specs.TypedScopes.{TypedScope}
use Rattle.fir_meaning.specs.TreeAims.{Aim, element_aim, element_aim_at, field_aim, field_aim_at, named_aim, one_step_further, picked_aim, picked_aim_at}
use Rattle.fir_meaning.specs.TreeValues.{TypesByPath, ValuesByPath, aim_along, leaf_where, value, value_where}
use Rattle.fir_source_laws.specs.working.PickLaws.{SubaccessesPick, further_parts}

-- two aims at one path, of one type
pub record AreAtOne (a b : Aim) : Type 0 where
  pub at : a.at ≡ b.at
  pub data_type : a.data_type ≡ b.data_type

field_one : (x : List ℕ) (a b : Aim) → AreAtOne a b → AreAtOne (field_aim x a) (field_aim x b)
field_one x a b h =
    subst (λ t. AreAtOne (field_aim_at x a (field_of_type x a.data_type)) (field_aim_at x b (field_of_type x t))) h.data_type (by (field_of_type x a.data_type))
  where
    by : (found : Option FieldFound) → AreAtOne (field_aim_at x a found) (field_aim_at x b found)
    by None = record { at = refl; data_type = refl }
    by (Some f) = record { at = ap (λ o. one_step_further o (named x)) h.at; data_type = refl }

element_one : (i : ℕ) (a b : Aim) → AreAtOne a b → AreAtOne (element_aim i a) (element_aim i b)
element_one i a b h =
    subst (λ t. AreAtOne (element_aim_at i a (vector_of_type a.data_type)) (element_aim_at i b (vector_of_type t))) h.data_type (by (vector_of_type a.data_type))
  where
    by : (found : Option (DataType × ℕ)) → AreAtOne (element_aim_at i a found) (element_aim_at i b found)
    by None = record { at = refl; data_type = refl }
    by (Some v) = record { at = ap (λ o. one_step_further o (element i)) h.at; data_type = refl }

picked_one : (i : ℕ) (a b : Aim) → AreAtOne a b → AreAtOne (picked_aim i a) (picked_aim i b)
picked_one i a b h =
    subst (λ t. AreAtOne (picked_aim_at i a (vector_of_type a.data_type)) (picked_aim_at i b (vector_of_type t))) h.data_type (by (vector_of_type a.data_type))
  where
    by : (found : Option (DataType × ℕ)) → AreAtOne (picked_aim_at i a found) (picked_aim_at i b found)
    by None = record { at = refl; data_type = refl }
    by (Some v) = record { at = ap (λ o. if nat_lt i v.1 then one_step_further o (element i) else None) h.at; data_type = refl }

module _ (scope : TypedScope) (holds : TypesByPath) (env : ValuesByPath) where
  along_one : (ps : Parts) (a b : Aim) → AreAtOne a b → AreAtOne (aim_along scope holds env a ps) (aim_along scope holds env b ps)
  along_one no_parts a b h = h
  along_one (subfield first p x rest) a b h = along_one rest (field_aim x a) (field_aim x b) (field_one x a b h)
  along_one (subindex first p i rest) a b h = along_one rest (element_aim i a) (element_aim i b) (element_one i a b h)
  along_one (subaccess first e rest) a b h =
      let i = (value scope holds env e []).value.number in
      along_one rest (picked_aim i a) (picked_aim i b) (picked_one i a b h)

  along_further : (ps more : Parts) (a : Aim)
      → aim_along scope holds env a (further_parts ps more) ≡ aim_along scope holds env (aim_along scope holds env a ps) more
  along_further no_parts more a = refl
  along_further (subfield first p x rest) more a = along_further rest more (field_aim x a)
  along_further (subindex first p i rest) more a = along_further rest more (element_aim i a)
  along_further (subaccess first e rest) more a = along_further rest more (picked_aim (value scope holds env e []).value.number a)

  -- from no path no parts lead on
  none_field : (x : List ℕ) (a : Aim) (found : Option FieldFound) → a.at ≡ None → (field_aim_at x a found).at ≡ None
  none_field x a None h = refl
  none_field x a (Some f) h = ap (λ o. one_step_further o (named x)) h

  none_element : (i : ℕ) (a : Aim) (found : Option (DataType × ℕ)) → a.at ≡ None → (element_aim_at i a found).at ≡ None
  none_element i a None h = refl
  none_element i a (Some v) h = ap (λ o. one_step_further o (element i)) h

  none_picked : (i : ℕ) (a : Aim) (found : Option (DataType × ℕ)) → a.at ≡ None → (picked_aim_at i a found).at ≡ None
  none_picked i a None h = refl
  none_picked i a (Some v) h = by (nat_lt i v.1)
    where
      by : (b : Bool) → (if b then one_step_further a.at (element i) else None) ≡ None
      by true = ap (λ o. one_step_further o (element i)) h
      by false = refl

  along_none : (ps : Parts) (a : Aim) → a.at ≡ None → (aim_along scope holds env a ps).at ≡ None
  along_none no_parts a h = h
  along_none (subfield first p x rest) a h = along_none rest (field_aim x a) (none_field x a (field_of_type x a.data_type) h)
  along_none (subindex first p i rest) a h = along_none rest (element_aim i a) (none_element i a (vector_of_type a.data_type) h)
  along_none (subaccess first e rest) a h =
      let i = (value scope holds env e []).value.number in
      along_none rest (picked_aim i a) (none_picked i a (vector_of_type a.data_type) h)

picked_within : (i n : ℕ) (a : Aim) (t : DataType) → vector_of_type a.data_type ≡ Some (t, n) → i < n → AreAtOne (picked_aim i a) (element_aim i a)
picked_within i n a t e lt = rw e (record { at = rw (lt-ltb i n lt) refl; data_type = refl })

picked_past : (i n : ℕ) (a : Aim) (t : DataType) → vector_of_type a.data_type ≡ Some (t, n) → n ≤ i → (picked_aim i a).at ≡ None
picked_past i n a t e le = rw (e, le-ltb i n le) refl

pub subaccesses_pick : SubaccessesPick
subaccesses_pick scope holds env here name front rest e first stands t n is =
    let i = (value scope holds env e []).value.number in
    let head = named_aim scope name in
    let a = aim_along scope holds env head front in
    let access = along_further scope holds env front (subaccess first e rest) head in
    let index = along_further scope holds env front (subindex first stands i rest) head in
    let read = λ (q : LeafPath) (o : Option LeafPath). value_where (leaf_where o q) env in (
      λ lt.
          let one = ap (λ (z : Aim). z.at) access ∙ (along_one scope holds env rest (picked_aim i a) (element_aim i a) (picked_within i n a t is lt)).at
          ∙ sym (ap (λ (z : Aim). z.at) index) in (one, λ q. ap (read q) one),
      λ le.
          let none = ap (λ (z : Aim). z.at) access ∙ along_none scope holds env rest (picked_aim i a) (picked_past i n a t is le) in
          (none, λ q. ap (read q) none),
    )
