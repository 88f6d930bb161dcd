-- The statements of a module have types over its leaves, where no fault of types or widths stands in them.
use Rattle.std.proofs.Common.{◌≡◌, ℕ, List, [], ◌++◌, Bool, true, Option, Some, None, slice_get, ap, ◌∙◌, subst}
use Rattle.std.specs.List.{AllByRecursion}
use Rattle.fir_base.proofs.Each.{all_from}
use Rattle.fir_base.proofs.Empty.{empty_left, empty_right}
use Rattle.fir_ast.specs.declared.place.Place.{Place}
use Rattle.fir_ast.specs.Types.{DataType, uint}
use Rattle.fir_ast.specs.Expressions.{Expression, reference, literal, operation, mux, validif}
use Rattle.fir_ast.specs.Statements.{SinkReference, Statement, wire, register, node, instance, memory, when, connect, partial_connect, invalid, skip, Block, done, then}
use Rattle.fir_ast.specs.Circuits.{ModuleTree, CircuitTree}
use Rattle.fir_meaning.specs.ExpressionPlaces.{place_of}
use Rattle.fir_meaning.specs.TypeKinds.{bare}
use Rattle.fir_meaning.specs.TypeLeaves.{type_leaves}
use Rattle.fir_meaning.specs.ComponentTypes.{typed_scope}
use Rattle.fir_meaning.specs.Visibility.{Before, opened, reopened, behind, behind_block, declarations}
use Rattle.fir_meaning.specs.Equivalence.{is_connectable, is_partly_connectable}
use Rattle.fir_meaning.specs.ConnectPairs.{Pair, pairs, partial_pairs}
use Rattle.fir_meaning.specs.TypedScopes.{TypedScope}
use Rattle.fir_meaning.specs.ExpressionTypes.{expression_type}
use Rattle.fir_meaning.specs.TypeGroup.{scope_at}
use Rattle.fir_meaning.specs.ResetJoins.{numbered_module}
use Rattle.fir_meaning.specs.WidthExpressions.{Widths}
use Rattle.fir_meaning.specs.SizedScopes.{SizedScope, sized_type, sink_expression}
use Rattle.fir_meaning.specs.SizedDeclarations.{numbered_behind, sized_at}
use Rattle.fir_meaning.specs.WidthWalk.{shown_within, shown_in, shown_in_block}
use Rattle.fir_meaning.specs.OverFaults.{over_rule}
use Rattle.fir_meaning.specs.LegalFaults.{legal_rule, condition_faults}
use Rattle.fir_meaning.specs.working.WellTyped.{HasType, ConnectIsLegal, IsLegal, AreLegal}
use Rattle.fir_meaning.proofs.FoundTypes.{found_type}
use Rattle.fir_meaning.proofs.SizedExpressions.{sized_as_typed}
use Rattle.fir_meaning.specs.working.Leafed.{target_of, target_read}
use Rattle.fir_meaning.specs.working.LeafPairs.{LeafPair, leaf_pairs, partial_leaf_pairs}
use Rattle.fir_meaning.specs.FoundTypes.{type_where}
use Rattle.fir_meaning.specs.working.LeafedBlocks.{sides, instance_block, connect_block, leafed, leafed_all}
use Rattle.fir_meaning.specs.working.Targets.{Target}
use Rattle.fir_meaning.specs.LeafTypes.{LeafType}
use Rattle.fir_meaning.specs.ModuleScenes.{Scene}
use Rattle.fir_meaning.specs.working.LeafedModules.{leafed_module, module_leaves}
use Rattle.fir_meaning.proofs.PartialPairs.{partial_fit}
use Rattle.fir_leaf.proofs.PairsByNumber.{IsPair, ArePairs, pairs_numbered, partial_numbered}
use Rattle.fir_leaf_types.specs.working.TypedBlocks.{AreTyped}
use Rattle.fir_leaf_types.specs.working.TypedModules.{held_in}
use Rattle.fir_leaf_types.proofs.StandingTypedTargets.{StandsTyped}
use Rattle.fir_leaf_types.proofs.ScopesStandTyped.{held_along}
use Rattle.fir_leaf_types.proofs.DeclarationsStandTyped.{held_longer, stands_behind}
use Rattle.fir_leaf_types.proofs.ExpressionsTyped.{KnowsLeaves, condition_termed, expression_typed, sink_termed, sink_typed, unsigned_termed}
use Rattle.fir_leaf_types.proofs.DeclarationsGrow.{Grows, grows_block, grows_through}
use Rattle.fir_leaf_types.proofs.LeavesHold.{holds_at, module_holds}
use Rattle.fir_leaf_types.proofs.ConnectsTyped.{Fits, invalid_typed, joined_typed, pairs_fit, pairs_typed}

module _ (c : CircuitTree) (held : ℕ → LeafType) (w : Widths) (scope : TypedScope) (sized : SizedScope) (knows : KnowsLeaves held w scope sized) where
  source_typed : (e : Expression) (t : DataType) → HasType scope e t → shown_within (over_rule w) sized e ≡ [] → shown_within (legal_rule c w) sized e ≡ []
      → (r : Target) → target_read scope e ≡ Some r → StandsTyped held w r (sized_type sized e)
  source_typed (reference p n ps) t h within legal r e =
      let s : SinkReference = record { place = p; name = n; parts = ps } in
      let is : target_of scope s ≡ r = cc in
      subst (λ x. StandsTyped held w x (sized_type sized (reference p n ps))) is
      (sink_typed c held w scope sized knows s h.1 (h.0, h.2, h.3) within legal).stands
  source_typed (literal l) t h within legal r e = absurd (cc)
  source_typed (operation p op es ks) t h within legal r e = absurd (cc)
  source_typed (mux p x a b) t h within legal r e = absurd (cc)
  source_typed (validif p x a) t h within legal r e = absurd (cc)

  connect_typed : (fits : DataType → DataType → Bool) (numbers_of : DataType → DataType → List LeafPair) (pairs_of : DataType → DataType → List Pair)
      → ((t u : DataType) → fits t u ≡ true → ArePairs (IsPair (type_leaves t) (type_leaves u)) (numbers_of t u) (pairs_of t u))
      → ((t u : DataType) → fits t u ≡ true → AllByRecursion Fits (pairs_of t u))
      → (p : Place) (s : SinkReference) (e : Expression) → ConnectIsLegal fits pairs_of scope s e
      → shown_within (over_rule w) sized (sink_expression s) ++ shown_within (over_rule w) sized e ≡ []
      → shown_within (legal_rule c w) sized (sink_expression s) ++ shown_within (legal_rule c w) sized e ≡ []
      → AreTyped held (connect_block numbers_of scope p s e)
  connect_typed fits numbers_of pairs_of alike each p s e h within legal =
      let over_sink = shown_within (over_rule w) sized (sink_expression s) in
      let over_source = shown_within (over_rule w) sized e in
      let legal_sink = shown_within (legal_rule c w) sized (sink_expression s) in
      let legal_source = shown_within (legal_rule c w) sized e in
      let target = sink_typed c held w scope sized knows s h.0 h.2 (empty_left over_sink over_source within) (empty_left legal_sink legal_source legal) in
      let gives_back = sink_termed c held w scope sized knows s h.0 h.2 (empty_left over_sink over_source within) (empty_left legal_sink legal_source legal) in
      let gives =
      expression_typed c held w scope sized knows e h.1 h.3 (empty_right over_sink over_source within) (empty_right legal_sink legal_source legal) in
      let source : type_where (expression_type scope e).has ≡ h.1 = ap (λ x. type_where x.has) (found_type scope e h.1 h.3) in
      let by_number : numbers_of (target_of scope s).data_type (type_where (expression_type scope e).has) ≡ numbers_of h.0.data_type h.1 =
      ap (λ u. numbers_of u (type_where (expression_type scope e).has)) target.data_type ∙ ap (numbers_of h.0.data_type) source in
      rw by_number
      (pairs_typed held w p (sides scope s e) (sized_type sized (sink_expression s)) (sized_type sized e) h.0.data_type h.1
      (record {
        target = target.stands;
        source =
            source_typed e h.1 h.3 (empty_right over_sink over_source within) (empty_right legal_sink legal_source legal);
        left_shape = target.stands.shape ∙ ap bare target.data_type;
        right_shape = knows.shape e h.1 h.3;
        gives = gives.terms;
        gives_back = gives_back.terms;
      })
      (numbers_of h.0.data_type h.1) (pairs_of h.0.data_type h.1) (alike h.0.data_type h.1 h.4) (each h.0.data_type h.1 h.4))

partly_fit : (t u : DataType) → is_partly_connectable t u ≡ true → AllByRecursion Fits (partial_pairs t u)
partly_fit t u h = all_from Fits (partial_pairs t u) (λ p m. (partial_fit t u h p m).fit)

module _ (c : CircuitTree) (s : Scene) (none : s.own.start.scope ≡ []) where
  abbrev pub held : ℕ → LeafType
  held = held_in (leafed_module s)

  pub knows_before : (before : Before) → Grows before.declared (declarations s.own.inside)
      → KnowsLeaves (held_in (leafed_module s)) s.widths (scope_at s.own.modules before) (sized_at s.own before)
  knows_before before g = record {
    stands = stands_behind s.widths s.own.modules s.own.start none before.declared;
    holds = λ x h e.
        let there = held_longer s.widths s.own.modules s.own.start none before.declared g.0 x h e in
        let all =
        subst (λ ds. slice_get (held_along s.widths (typed_scope s.own.modules ds) (numbered_behind s.own.modules s.own.start ds).scope) x ≡ Some h) g.1
        there in
        holds_at (module_leaves s) x h (ap (λ l. slice_get l x) (module_holds s none) ∙ all);
    shape = λ e t h.
        sized_as_typed s.own.modules s.own.start before.declared e t none (ap (λ x. x.has) (found_type (scope_at s.own.modules before) e t h));
  }

  module _ (may : ℕ → Bool) where
    mutual
      statement_typed : (x : Statement) (before : Before) → Grows (behind before x).declared (declarations s.own.inside) → IsLegal s.own.modules before x
          → shown_in (over_rule s.widths) s.own before x ≡ [] → shown_in (legal_rule c s.widths) s.own before x ≡ []
          → AreTyped (held_in (leafed_module s)) (leafed s.own.modules may before x)
      statement_typed (wire p n begins t) before g h within legal = tt
      statement_typed (register p n begins t x r) before g h within legal = tt
      statement_typed (node p n e) before g h within legal = tt
      statement_typed (instance p n m) before g h within legal = by (numbered_module 0 s.own.modules m.name)
        where
          by : (child : Option (ℕ × ModuleTree)) → AreTyped (held_in (leafed_module s)) (instance_block (scope_at s.own.modules before) child)
          by None = tt
          by (Some child) = (tt, tt)
      statement_typed (memory p n parts) before g h within legal = tt
      statement_typed (when p x a b) before g h within legal =
          let scope = scope_at s.own.modules before in
          let sized = sized_at s.own before in
          let inside = behind_block (opened before) a in
          let wx = shown_within (over_rule s.widths) sized x in
          let wa = shown_in_block (over_rule s.widths) s.own (opened before) a in
          let wb = shown_in_block (over_rule s.widths) s.own (reopened before inside) b in
          let lx = shown_within (legal_rule c s.widths) sized x in
          let lc = condition_faults s.widths (place_of x) (sized_type sized x) in
          let la = shown_in_block (legal_rule c s.widths) s.own (opened before) a in
          let lb = shown_in_block (legal_rule c s.widths) s.own (reopened before inside) b in
          let within_a = empty_left ((wx ++ []) ++ wa) wb within in
          let within_x = empty_left (wx ++ []) wa within_a in
          let legal_a = empty_left ((lx ++ lc) ++ la) lb legal in
          let legal_x = empty_left (lx ++ lc) la legal_a in
          let behind_first =
          grows_through inside.declared (behind_block (reopened before inside) b).declared (declarations s.own.inside)
          (grows_block b (reopened before inside)) g in
          let knows =
          knows_before before
          (grows_through before.declared inside.declared (declarations s.own.inside) (grows_block a (opened before)) behind_first) in
          let termed =
          expression_typed c held s.widths scope sized knows x (uint h.0) h.1 (empty_left wx [] within_x) (empty_left lx lc legal_x) in
          let condition = unsigned_termed c held s.widths scope sized knows x h.0 h.1 termed in (
            (
              condition_termed c held s.widths scope sized knows x condition (empty_right lx lc legal_x),
              block_typed a (opened before) behind_first h.2 (empty_right (wx ++ []) wa within_a) (empty_right (lx ++ lc) la legal_a),
              block_typed b (reopened before inside) g h.3 (empty_right ((wx ++ []) ++ wa) wb within) (empty_right ((lx ++ lc) ++ la) lb legal),
            ),
            tt,
          )
      statement_typed (connect p d e) before g h within legal =
          connect_typed c held s.widths (scope_at s.own.modules before) (sized_at s.own before) (knows_before before g) is_connectable leaf_pairs pairs
          pairs_numbered pairs_fit p d e h within legal
      statement_typed (partial_connect p d e) before g h within legal =
          connect_typed c held s.widths (scope_at s.own.modules before) (sized_at s.own before) (knows_before before g) is_partly_connectable
          partial_leaf_pairs partial_pairs partial_numbered partly_fit p d e h within legal
      statement_typed (invalid p d) before g h within legal =
          let scope = scope_at s.own.modules before in
          let sized = sized_at s.own before in
          invalid_typed held s.widths may p (target_of scope d) (sized_type sized (sink_expression d))
          (sink_typed c held s.widths scope sized (knows_before before g) d h.0 h.1 within legal).stands
      statement_typed (skip p) before g h within legal = tt

      pub block_typed : (b : Block) (before : Before) → Grows (behind_block before b).declared (declarations s.own.inside) → AreLegal s.own.modules before b
          → shown_in_block (over_rule s.widths) s.own before b ≡ [] → shown_in_block (legal_rule c s.widths) s.own before b ≡ []
          → AreTyped (held_in (leafed_module s)) (leafed_all s.own.modules may before b)
      block_typed done before g h within legal = tt
      block_typed ((then) x b) before g h within legal =
          let wx = shown_in (over_rule s.widths) s.own before x in
          let wb = shown_in_block (over_rule s.widths) s.own (behind before x) b in
          let lx = shown_in (legal_rule c s.widths) s.own before x in
          let lb = shown_in_block (legal_rule c s.widths) s.own (behind before x) b in
          joined_typed held (leafed s.own.modules may before x) (leafed_all s.own.modules may (behind before x) b)
          (statement_typed x before
          (grows_through (behind before x).declared (behind_block (behind before x) b).declared (declarations s.own.inside) (grows_block b (behind before x)) g)
          h.0 (empty_left wx wb within) (empty_left lx lb legal))
          (block_typed b (behind before x) g h.1 (empty_right wx wb within) (empty_right lx lb legal))
