-- What is over is a fault of the group of E19, and what is not legal one of the group of E20 to E22.
use Rattle.std.proofs.Common.{◌≡◌, ℕ, List, [], ◌∷◌, ◌++◌, flat_map, Bool, true, false, ◌==◌, if◌then◌else◌, Option, Some, None, refl, subst, inl, inr}
use Rattle.std.specs.Prelude.{slice_index, codes}
use Rattle.std.specs.Str.{bytes_eq}
use Rattle.fir_base.specs.Lists.{In}
use Rattle.fir_base.proofs.Members.{in_flat_map_from}
use Rattle.fir_bits.specs.OperatorWords.{operator_word}
use Rattle.fir_bits.specs.Literals.{holds_number}
use Rattle.fir_bits.specs.Types.{is_legal}
use Rattle.fir_ast.specs.declared.place.Place.{Place}
use Rattle.fir_ast.specs.declared.expressions.Literal.{Literal}
use Rattle.fir_ast.specs.Expressions.{Expression, reference, literal, operation, mux, validif}
use Rattle.fir_ast.specs.Statements.{PlacedName}
use Rattle.fir_ast.specs.Circuits.{CircuitTree}
use Rattle.fir_ast.specs.Faults.{Fault}
use Rattle.fir_pass.specs.Groups.{group_of}
use Rattle.fir_meaning.specs.LeafPaths.{LeafPath, named}
use Rattle.fir_meaning.specs.TypeLeaves.{turned}
use Rattle.fir_meaning.specs.Components.{port, wire, register, node, instance, memory}
use Rattle.fir_meaning.specs.ComponentTypes.{is_input}
use Rattle.fir_meaning.specs.ExpressionPlaces.{place_of}
use Rattle.fir_meaning.specs.WidthExpressions.{Width, known, unknown, single, pair, greater, guarded, Widths, width_under}
use Rattle.fir_meaning.specs.SizedTypes.{unsigned, signed, clock_scalar, reset_scalar, async_scalar, Sized, scalar, sized_bundle, sized_vector}
use Rattle.fir_meaning.specs.SizedLeaves.{SizedLeaf, sized_leaves}
use Rattle.fir_meaning.specs.SizedOperations.{width_in, first_sized}
use Rattle.fir_meaning.specs.SizedScopes.{SizedScope, sized_type, sized_types}
use Rattle.fir_meaning.specs.SizeFaults.{word_over, leaf_over, no_port_width, wrong_integers, wrong_literal, wrong_condition}
use Rattle.fir_meaning.specs.WidthWalk.{FaultRule}
use Rattle.fir_meaning.specs.OverFaults.{is_leaf_over, leaves_over, with_leaves, first_path, has_over, form_over, expression_over, over_rule, over_faults}
use Rattle.fir_meaning.specs.LegalFaults.{unwritten, unwritten_inputs, written_literal_faults, form_faults, condition_faults, legal_rule, legal_faults}
use Rattle.fir_infer_widths.specs.working.Spots.{Spot, of_component, of_expression, of_condition, shown_by, spots}
use Rattle.fir_infer_widths.proofs.SpotsOfCircuit.{spots_show}

-- each of these faults is of the group
abbrev AreOf : ℕ → List Fault → Type 0
AreOf k fs = (f : Fault) → In fs f → group_of f.code ≡ k

none_of : (k : ℕ) → AreOf k []
none_of k f there = absurd there

one_of : (k : ℕ) (g : Fault) → group_of g.code ≡ k → AreOf k (g ∷ [])
one_of k g is f (inl same) = subst (λ (h : Fault). group_of h.code ≡ k) same is
one_of k g is f (inr there) = absurd there

either_of : (k : ℕ) (b : Bool) (fs gs : List Fault) → AreOf k fs → AreOf k gs → AreOf k (if b then fs else gs)
either_of k true fs gs p q = p
either_of k false fs gs p q = q

each_of : {A : Type 0} (k : ℕ) (g : A → List Fault) (xs : List A) → ((x : A) → AreOf k (g x)) → AreOf k (flat_map g xs)
each_of k g xs h f there = let at = in_flat_map_from g xs f there in h at.0 f at.2

-- what a rule shows at each spot, and so in the circuit
shown_of : (k : ℕ) (rule : FaultRule) (c : CircuitTree) → ((x : Spot) → AreOf k (shown_by rule x)) → AreOf k (flat_map (shown_by rule) (spots c))
shown_of k rule c h = each_of k (shown_by rule) (spots c) h

module _ (w : Widths) where
  leaves_of : (p : Place) (path : LeafPath) (t : Sized) → AreOf 6 (leaves_over w p path t)
  leaves_of p path t =
      each_of 6 (λ (l : SizedLeaf). if is_leaf_over w l then leaf_over p (path ++ l.path) ∷ [] else []) (sized_leaves t)
      (λ l. either_of 6 (is_leaf_over w l) (leaf_over p (path ++ l.path) ∷ []) [] (one_of 6 (leaf_over p (path ++ l.path)) refl) (none_of 6))

  form_of : (p : Place) (word : List ℕ) (t : Sized) → AreOf 6 (form_over w p word t)
  form_of p word t = either_of 6 (has_over w (sized_leaves t)) (word_over p word ∷ []) [] (one_of 6 (word_over p word) refl) (none_of 6)

  expression_of : (scope : SizedScope) (e : Expression) → AreOf 6 (expression_over w scope e)
  expression_of scope (reference p n ps) = leaves_of p (first_path (named n ∷ []) ps) (sized_type scope (reference p n ps))
  expression_of scope (literal l) = form_of l.place (codes "literal") (sized_type scope (literal l))
  expression_of scope (operation p op es ks) = form_of p (operator_word op) (sized_type scope (operation p op es ks))
  expression_of scope (mux p c a b) = form_of p (codes "mux") (sized_type scope (mux p c a b))
  expression_of scope (validif p c a) = form_of p (codes "validif") (sized_type scope (validif p c a))

  over_of : (x : Spot) → AreOf 6 (shown_by (over_rule w) x)
  over_of (of_component m n c t) = leaves_of n.place (named n.name ∷ []) (with_leaves c t)
  over_of (of_expression scope e) = expression_of scope e
  over_of (of_condition scope e) = none_of 6

  unwritten_of : (p : Place) (path : LeafPath) (e : Width) → AreOf 7 (unwritten p path e)
  unwritten_of p path (known n) = none_of 7
  unwritten_of p path (unknown k) = one_of 7 (no_port_width p path) refl
  unwritten_of p path (single op s a n m) = none_of 7
  unwritten_of p path (pair op s a b) = none_of 7
  unwritten_of p path (greater a b) = none_of 7
  unwritten_of p path (guarded c a) = none_of 7

  inputs_of : (n : PlacedName) (inward : Bool) (t : Sized) → AreOf 7 (unwritten_inputs n inward t)
  inputs_of n inward t =
      each_of 7 (λ (l : SizedLeaf). if turned inward l.flip then unwritten n.place (named n.name ∷ l.path) l.width else []) (sized_leaves t)
      (λ l. either_of 7 (turned inward l.flip) (unwritten n.place (named n.name ∷ l.path) l.width) []
      (unwritten_of n.place (named n.name ∷ l.path) l.width) (none_of 7))

  literal_of : (l : Literal) (width : Option ℕ) → AreOf 7 (written_literal_faults l width)
  literal_of l None = none_of 7
  literal_of l (Some width) =
      let wrong = wrong_literal l.place width l.negative l.magnitude in
      either_of 7 (holds_number l.signed width l.negative l.magnitude) [] (wrong ∷ []) (none_of 7) (one_of 7 wrong refl)

  legal_form_of : (scope : SizedScope) (e : Expression) → AreOf 7 (form_faults w scope e)
  legal_form_of scope (reference p n ps) = none_of 7
  legal_form_of scope (literal l) = literal_of l l.width
  legal_form_of scope (operation p op es ks) =
      let width = width_under (width_in (first_sized (sized_types scope es))) w in
      either_of 7 (is_legal op width (slice_index ks 0) (slice_index ks 1)) [] (wrong_integers p op (width ∷ ks) ∷ []) (none_of 7)
      (one_of 7 (wrong_integers p op (width ∷ ks)) refl)
  legal_form_of scope (mux p c a b) = none_of 7
  legal_form_of scope (validif p c a) = none_of 7

  condition_of : (p : Place) (t : Sized) → AreOf 7 (condition_faults w p t)
  condition_of p (scalar unsigned width) =
      either_of 7 (width_under width w == 1) [] (wrong_condition p (width_under width w) ∷ []) (none_of 7) (one_of 7 (wrong_condition p (width_under width w)) refl)
  condition_of p (scalar signed width) = none_of 7
  condition_of p (scalar clock_scalar width) = none_of 7
  condition_of p (scalar reset_scalar width) = none_of 7
  condition_of p (scalar async_scalar width) = none_of 7
  condition_of p (sized_bundle fs) = none_of 7
  condition_of p (sized_vector t n) = none_of 7

  legal_of : (c : CircuitTree) (x : Spot) → AreOf 7 (shown_by (legal_rule c w) x)
  legal_of c (of_component m n (port d t) sized) =
      either_of 7 (bytes_eq m.named.name c.named.name) (unwritten_inputs n (is_input d) sized) [] (inputs_of n (is_input d) sized) (none_of 7)
  legal_of c (of_component m n (wire t) sized) = none_of 7
  legal_of c (of_component m n (register t) sized) = none_of 7
  legal_of c (of_component m n (node e) sized) = none_of 7
  legal_of c (of_component m n (instance name) sized) = none_of 7
  legal_of c (of_component m n (memory parts) sized) = none_of 7
  legal_of c (of_expression scope e) = legal_form_of scope e
  legal_of c (of_condition scope e) = condition_of (place_of e) (sized_type scope e)

pub over_group_of : (c : CircuitTree) (w : Widths) → AreOf 6 (over_faults c w)
over_group_of c w = rw (spots_show (over_rule w) c) (shown_of 6 (over_rule w) c (over_of w))

pub legal_group_of : (c : CircuitTree) (w : Widths) → AreOf 7 (legal_faults c w)
legal_group_of c w = rw (spots_show (legal_rule c w) c) (shown_of 7 (legal_rule c w) c (legal_of w c))
