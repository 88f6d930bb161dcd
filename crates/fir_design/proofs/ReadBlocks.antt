-- The statements of a legal block drive and read leaves of the module, through indices either of ports alone or of none.
use Rattle.std.proofs.Common.{◌≡◌, ℕ, List, Bool, true, Option, Some, None, sym, ap, ◌∙◌, arith}
use Rattle.fir_ast.specs.declared.place.Place.{Place}
use Rattle.fir_ast.specs.Types.{DataType, uint}
use Rattle.fir_ast.specs.Expressions.{Expression, reference, literal, operation, mux, validif}
use Rattle.fir_ast.specs.Statements.{SinkReference, Statement, wire, register, node, instance, memory, when, connect, partial_connect, invalid, skip, Block, done, then}
use Rattle.fir_ast.specs.Circuits.{ModuleTree}
use Rattle.fir_meaning.specs.TypeLeaves.{type_leaves, leaf_count}
use Rattle.fir_meaning.specs.Visibility.{Before, opened, reopened, behind, behind_block}
use Rattle.fir_meaning.specs.Equivalence.{is_connectable, is_partly_connectable}
use Rattle.fir_meaning.specs.ConnectPairs.{Pair, pairs, partial_pairs}
use Rattle.fir_meaning.specs.TypedScopes.{TypedScope}
use Rattle.fir_meaning.specs.ExpressionTypes.{expression_type}
use Rattle.fir_meaning.specs.TypeGroup.{scope_at}
use Rattle.fir_meaning.specs.ResetJoins.{numbered_module}
use Rattle.fir_meaning.specs.working.WellTyped.{HasType, ConnectIsLegal, IsLegal, AreLegal}
use Rattle.fir_meaning.proofs.FoundTypes.{found_type}
use Rattle.fir_meaning.specs.working.LeafModules.{LeafModule}
use Rattle.fir_meaning.specs.working.LeafPairs.{LeafPair, leaf_pairs, partial_leaf_pairs}
use Rattle.fir_meaning.specs.working.Leafed.{target_of, target_read}
use Rattle.fir_meaning.specs.FoundTypes.{type_where}
use Rattle.fir_meaning.specs.working.LeafedBlocks.{sides, instance_block, connect_block, leafed, leafed_all}
use Rattle.fir_leaf.specs.working.LeafLaws.{Begins}
use Rattle.fir_leaf.proofs.PairsByNumber.{IsPair, ArePairs, pairs_numbered, partial_numbered}
use Rattle.fir_leaf.proofs.ScopesBegin.{begins_through, begins_behind, begins_block}
use Rattle.fir_design.proofs.ReadTargets.{AreNamesIn}
use Rattle.fir_design.proofs.ReadTerms.{condition_in, sink_in, target_in, terms_in}
use Rattle.fir_design.proofs.ReadStatements.{AreReading, IsSide, invalid_reading, joined_reading, pairs_reading}

module _ (m : LeafModule) where
  module _ (scope : TypedScope) (names : AreNamesIn m scope) where
    source_reading : (e : Expression) (t : DataType) → HasType scope e t → IsSide m (target_read scope e) t
    source_reading (reference p n ps) t h =
        let s : SinkReference = record { place = p; name = n; parts = ps } in
        let met = sink_in m scope names s h.1 (h.0, h.2, h.3) in
        record { inside = met.inside; data_type = met.data_type ∙ sym h.4 }
    source_reading (literal l) t h = tt
    source_reading (operation p op es ks) t h = tt
    source_reading (mux p c a b) t h = tt
    source_reading (validif p c a) t h = tt

    connect_reading : (fits : DataType → DataType → Bool) (numbers_of : DataType → DataType → List LeafPair)
        (pairs_of : DataType → DataType → List Pair)
        → ((t u : DataType) → fits t u ≡ true → ArePairs (IsPair (type_leaves t) (type_leaves u)) (numbers_of t u) (pairs_of t u))
        → (p : Place) (s : SinkReference) (e : Expression) → ConnectIsLegal fits pairs_of scope s e → AreReading m (connect_block numbers_of scope p s e)
    connect_reading fits numbers_of pairs_of alike p s e h =
        let met = sink_in m scope names s h.0 h.2 in
        let target = target_of scope s in
        let source : type_where (expression_type scope e).has ≡ h.1 = ap (λ c. type_where c.has) (found_type scope e h.1 h.3) in
        let by_number : numbers_of target.data_type (type_where (expression_type scope e).has) ≡ numbers_of h.0.data_type h.1 =
        ap (λ u. numbers_of u (type_where (expression_type scope e).has)) met.data_type ∙ ap (numbers_of h.0.data_type) source in
        rw by_number
        (pairs_reading m p (sides scope s e) h.0.data_type h.1 met (source_reading e h.1 h.3) (terms_in m scope names e h.1 h.3)
        (target_in m target met.inside) (numbers_of h.0.data_type h.1) (pairs_of h.0.data_type h.1) (alike h.0.data_type h.1 h.4))

  instance_reading : (scope : TypedScope) (child : Option (ℕ × ModuleTree)) → AreReading m (instance_block scope child)
  instance_reading scope None = tt
  instance_reading scope (Some child) = (tt, tt)

-- wherever all names stand for leaves of the module
module _ (m : LeafModule) (modules : List ModuleTree) (start whole : TypedScope)
    (names : (scope : TypedScope) → Begins start scope → Begins scope whole → AreNamesIn m scope) (may : ℕ → Bool) where
  mutual
    statement_reading : (s : Statement) (before : Before) → Begins start (scope_at modules before)
        → Begins (scope_at modules (behind before s)) whole
        → IsLegal modules before s → AreReading m (leafed modules may before s)
    statement_reading (wire p n begins t) before a b h = tt
    statement_reading (register p n begins t c r) before a b h = tt
    statement_reading (node p n e) before a b h = tt
    statement_reading (memory p n parts) before a b h = tt
    statement_reading (skip p) before a b h = tt
    statement_reading (instance p n o) before a b h = instance_reading m (scope_at modules before) (numbered_module 0 modules o.name)
    statement_reading (when p c x y) before a b h =
        let first = opened before in
        let inside = behind_block first x in
        let second = reopened before inside in
        let third = begins_through (scope_at modules inside) (scope_at modules (behind_block second y)) whole (begins_block modules y second) b in
        let through = begins_through (scope_at modules before) (scope_at modules inside) whole (begins_block modules x first) third in (
          (
            condition_in m (scope_at modules before) (names (scope_at modules before) a through) c (uint h.0) h.1,
            block_reading x first a third h.2,
            block_reading y second (begins_through start (scope_at modules before) (scope_at modules inside) a (begins_block modules x first)) b h.3,
          ),
          tt,
        )
    statement_reading (connect p s e) before a b h =
        let scope = scope_at modules before in
        connect_reading m scope (names scope a b) is_connectable leaf_pairs pairs pairs_numbered p s e h
    statement_reading (partial_connect p s e) before a b h =
        let scope = scope_at modules before in
        connect_reading m scope (names scope a b) is_partly_connectable partial_leaf_pairs partial_pairs partial_numbered p s e h
    statement_reading (invalid p s) before a b h =
        let scope = scope_at modules before in
        let r = target_of scope s in
        invalid_reading m p r (sink_in m scope (names scope a b) s h.0 h.1).inside may 0 (leaf_count r.data_type) (omega arith)

    pub block_reading : (b : Block) (before : Before) → Begins start (scope_at modules before)
        → Begins (scope_at modules (behind_block before b)) whole
        → AreLegal modules before b → AreReading m (leafed_all modules may before b)
    block_reading done before a b h = tt
    block_reading ((then) s rest) before a b h =
        let next = behind before s in
        joined_reading m (leafed modules may before s) (leafed_all modules may next rest)
        (statement_reading s before a
        (begins_through (scope_at modules next) (scope_at modules (behind_block next rest)) whole (begins_block modules rest next) b) h.0)
        (block_reading rest next (begins_through start (scope_at modules before) (scope_at modules next) a (begins_behind modules s before)) b h.1)
