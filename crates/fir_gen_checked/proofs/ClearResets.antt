-- No Reset stands in the circuit, so that no walk of Resets does.
use Rattle.std.proofs.Common.{◌≡◌, ℕ, ◌+◌, ◌-◌, ◌≤◌, List, [], ◌∷◌, ◌++◌, map, true, Option, Some, None, slice_get, refl, sym, ap, ◌∙◌, inl, inr, ⊎_elim, subst}
use Rattle.std.specs.Prelude.{codes}
use Rattle.fir_base.specs.Lists.{In}
use Rattle.fir_base.proofs.Elements.{get_in}
use Rattle.fir_base.proofs.Members.{in_map_from}
use Rattle.fir_bits.specs.declared.operators.PrimOp.TheVariants.{Add, Tail, Xor}
use Rattle.fir_ast.specs.declared.place.Place.{Place}
use Rattle.fir_ast.specs.Types.{DataType, uint}
use Rattle.fir_ast.specs.Expressions.{Expression, operation}
use Rattle.fir_ast.specs.Statements.{connect}
use Rattle.fir_ast.specs.Circuits.{ModuleTree}
use Rattle.fir_ast.specs.Faults.{Fault}
use Rattle.fir_meaning.specs.Flows.{Flow, source, both}
use Rattle.fir_meaning.specs.Visibility.{Before, behind, declarations, opened, reopened}
use Rattle.fir_meaning.specs.Checked.{is_found, together}
use Rattle.fir_meaning.specs.ExpressionTypes.{expression_type, expression_types, operation_form}
use Rattle.fir_meaning.specs.TypedScopes.{Known, TypedScope}
use Rattle.fir_meaning.specs.ComponentTypes.{typed_scope}
use Rattle.fir_meaning.specs.TypeGroup.{scope_at}
use Rattle.fir_meaning.specs.ResetItems.{End}
use Rattle.fir_meaning.specs.ResetJoins.{ResetModule, joins, joins_in, joins_in_block, type_at_place}
use Rattle.fir_meaning.specs.ResetWalks.{IsLeafOf, IsReset, ShowsResets}
use Rattle.fir_gen.specs.GenText.{register_name}
use Rattle.fir_gen.specs.working.GenTree.{body, gen_module, gen_tree, plain, plain_sink, step_when, sum_at, sum_connect, two, word_type, xor_connect}
use Rattle.fir_gen_checked.proofs.DeclaredRegisters.{behind_head, declared_behind}
use Rattle.fir_gen_checked.proofs.DeclaredKinds.{declared_simple, is_simple_type, no_reset_leaf, simple_known}
use Rattle.fir_gen_checked.proofs.BodyWalk.{of_body}
use Rattle.fir_gen_checked.proofs.KnownRegisters.{IsKnown, WhereKnown, all_known, as_written, typed_is}
use Rattle.fir_gen_checked.proofs.ClearHierarchy.{all_declared}
use Rattle.fir_gen_checked.proofs.JoinedTypes.{AreApart, connect_apart, joined_apart, none_apart}

-- ---- the types of what drives registers

module _ (scope : TypedScope) (o p q r : Place) (a b : List ℕ) (f g : Flow) (left : IsKnown scope a f word_type)
    (right : IsKnown scope b g word_type) where
  operands_typed : expression_types scope (two (plain q a) (plain r b)) ≡ is_found (word_type ∷ word_type ∷ [])
  operands_typed = rw (left, right) refl

  xor_typed : (expression_type scope (operation p Xor (two (plain q a) (plain r b)) [])).has ≡ Some (uint None)
  xor_typed = ap (λ ts. (operation_form p Xor [] ts).has) operands_typed

  sum_typed : (expression_type scope (sum_at o p (plain q a) (plain r b))).has ≡ Some (uint None)
  sum_typed = ap (λ ts. (operation_form o Tail (1 ∷ []) (together (λ t us. t ∷ us) (operation_form p Add [] ts) (is_found []))).has) operands_typed

module _ (m : ResetModule) (before : Before) where
  drive_apart : (p q : Place) (name : List ℕ) (e : Expression) (t : Option ℕ) → type_at_place m before (plain q name) ≡ Some word_type
      → type_at_place m before e ≡ Some (uint t) → AreApart (joins_in m before (connect p (plain_sink q name) e))
  drive_apart p q name e t left right =
      connect_apart m before (plain_sink q name) e (type_at_place m before (plain q name)) (type_at_place m before e) (Some 16) t left right

module _ (at : ℕ → ℕ → Place) (m : ResetModule) (before : Before) (j : ℕ) (earlier : IsKnown (scope_at m.modules before) (register_name j) both word_type)
    (own : IsKnown (scope_at m.modules before) (register_name (j + 1)) both word_type) where
  xor_apart : AreApart (joins_in m before (xor_connect at j))
  xor_apart =
      drive_apart m before (at (j + 1) 21) (at (j + 1) 21) (register_name (j + 1))
      (operation (at (j + 1) 22) Xor (two (plain (at (j + 1) 23) (register_name j)) (plain (at (j + 1) 24) (register_name (j + 1)))) []) None (rw own refl)
      (xor_typed (scope_at m.modules before) (at (j + 1) 22) (at (j + 1) 22) (at (j + 1) 23) (at (j + 1) 24) (register_name j) (register_name (j + 1)) both both
      earlier own)

  sum_apart : AreApart (joins_in m before (sum_connect at j))
  sum_apart =
      drive_apart m before (at (j + 1) 25) (at (j + 1) 25) (register_name (j + 1))
      (sum_at (at (j + 1) 26) (at (j + 1) 27) (plain (at (j + 1) 28) (register_name (j + 1))) (plain (at (j + 1) 29) (register_name j))) None (rw own refl)
      (sum_typed (scope_at m.modules before) (at (j + 1) 26) (at (j + 1) 27) (at (j + 1) 28) (at (j + 1) 29) (register_name (j + 1)) (register_name j) both both
      own earlier)

module _ (at : ℕ → ℕ → Place) (m : ResetModule) where
  step_apart : (before : Before) (j : ℕ) → IsKnown (scope_at m.modules before) (register_name j) both word_type
      → IsKnown (scope_at m.modules before) (register_name (j + 1)) both word_type → AreApart (joins_in m before (step_when at j))
  step_apart before j earlier own =
      let then_before = opened before in
      let else_before = reopened before then_before in
      let first = joins_in m then_before (xor_connect at j) in
      let second = joins_in m else_before (sum_connect at j) in
      joined_apart (first ++ []) (second ++ []) (joined_apart first [] (xor_apart at m then_before j earlier own) none_apart)
      (joined_apart second [] (sum_apart at m else_before j earlier own) none_apart)

  where_known : WhereKnown at m.modules (λ before s. AreApart (joins_in m before s))
  where_known = record {
    a_register = λ before k clocked resets. none_apart;
    the_first = λ before own input.
        drive_apart m before (at 0 18) (at 0 18) (register_name 0)
        (sum_at (at 0 19) (at 0 20) (plain (at 0 21) (register_name 0)) (plain (at 0 22) (codes "x"))) None (rw own refl)
        (sum_typed (scope_at m.modules before) (at 0 19) (at 0 20) (at 0 21) (at 0 22) (register_name 0) (codes "x") both source own input);
    a_step = λ before j input earlier own. step_apart before j earlier own;
    the_last = λ before n output own.
        drive_apart m before (at n 30) (at n 30) (codes "y") (plain (at n 31) (register_name (n - 1))) (Some 16) (rw output refl) (rw own refl);
  }

  body_apart : (n : ℕ) → 1 ≤ n → n ≤ 4096 → AreApart (joins_in_block m (behind_head at) (body at n))
  body_apart n some small =
      of_body at (λ before b. AreApart (joins_in_block m before b)) (λ before s. AreApart (joins_in m before s))
      (λ before s b h g. joined_apart (joins_in m before s) (joins_in_block m (behind before s) b) h g) n
      (all_known at m.modules _ where_known n some small) none_apart

-- ---- the circuit

module _ (at : ℕ → ℕ → Place) (n : ℕ) (some : 1 ≤ n) (small : n ≤ 4096) where
  joins_apart : AreApart (joins (gen_tree at n))
  joins_apart =
      let m : ResetModule = record { modules = gen_module at n ∷ []; number = 0; inside = gen_module at n } in
      joined_apart (joins_in_block m (behind_head at) (body at n)) [] (body_apart at m n some small) none_apart

  -- what is known of all that is declared
  simple_scope : (k : Known) (t : DataType) → In (typed_scope (gen_module at n ∷ []) (declarations (gen_module at n))) k → k.data_type ≡ Some t
      → is_simple_type t ≡ true
  simple_scope k t m h =
      let modules = gen_module at n ∷ [] in
      let in_scope : In (map as_written (declared_behind at (n - 1))) k =
      subst (λ (scope : TypedScope). In scope k) (typed_is at modules (n - 1)) (subst (λ ds. In (typed_scope modules ds) k) (all_declared at n) m) in
      let from = in_map_from as_written (declared_behind at (n - 1)) k in_scope in
      simple_known from.0 t (declared_simple at (n - 1) from.0 from.1) (ap (λ (x : Known). x.data_type) from.2 ∙ h)

  own_module : (number : ℕ) (inside : ModuleTree) → slice_get (gen_module at n ∷ []) number ≡ Some inside → gen_module at n ≡ inside
  own_module number inside h = only (get_in (gen_module at n ∷ []) number inside h)
    where
      only : In (gen_module at n ∷ []) inside → gen_module at n ≡ inside
      only (inl e) = e
      only (inr m) = absurd m

  leaf_apart : (e : End) → IsLeafOf (gen_tree at n) e → IsReset e → ⊥
  leaf_apart e h is =
      let declared : In (typed_scope (gen_module at n ∷ []) (declarations (gen_module at n))) h.declared =
      subst (λ i. In (typed_scope (gen_module at n ∷ []) (declarations i)) h.declared) (sym (own_module h.number h.inside h.is_module)) h.is_declared in
      no_reset_leaf h.data_type h.leaf (simple_scope h.declared h.data_type declared h.has_type) h.is_leaf (sym h.ground_type ∙ is)

  pub resets_clear : (f : Fault) → ShowsResets (gen_tree at n) f → ⊥
  resets_clear f h =
      let is : IsReset h.first = h.walk.resets.0 in
      ⊎_elim
      (λ (i : In (joins (gen_tree at n)) (record { one = h.begins; other = h.first })). (joins_apart _ i).other is)
      (λ o. ⊎_elim
      (λ (i : In (joins (gen_tree at n)) (record { one = h.first; other = h.begins })). (joins_apart _ i).one is)
      (λ l. leaf_apart h.first l.1 is) o)
      h.walk.chain.0
