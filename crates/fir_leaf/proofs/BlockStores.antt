-- The statements of a module over its leaves store what they store by paths.
use Rattle.std.proofs.Common.{◌≡◌, ℕ, List, [], ◌∷◌, ◌++◌, Bool, true, not, Option, Some, None, refl, sym, ap, ◌∙◌, subst}
use Rattle.fir_ast.specs.declared.place.Place.{Place}
use Rattle.fir_ast.specs.Types.{DataType, uint}
use Rattle.fir_ast.specs.Expressions.{Expression, reference, literal, operation, mux, validif}
use Rattle.fir_ast.specs.Statements.{SinkReference, Statement, wire, register, node, instance, memory, when, connect, partial_connect, invalid, skip, Block, done, then}
use Rattle.fir_ast.specs.Circuits.{ModuleTree}
use Rattle.fir_meaning.specs.TypeLeaves.{type_leaves}
use Rattle.fir_meaning.specs.Visibility.{Before, opened, reopened, behind, behind_block}
use Rattle.fir_meaning.specs.Equivalence.{is_connectable, is_partly_connectable}
use Rattle.fir_meaning.specs.ConnectPairs.{Pair, pairs, partial_pairs}
use Rattle.fir_meaning.specs.Values.{is_high}
use Rattle.fir_meaning.specs.TypedScopes.{TypedScope}
use Rattle.fir_meaning.specs.ExpressionTypes.{expression_type}
use Rattle.fir_meaning.specs.TypeGroup.{scope_at}
use Rattle.fir_meaning.specs.ResetJoins.{numbered_module}
use Rattle.fir_meaning.specs.working.WellTyped.{HasType, ConnectIsLegal, IsLegal, AreLegal}
use Rattle.fir_meaning.proofs.FoundTypes.{found_type}
use Rattle.fir_meaning.specs.working.TermValues.{eval, is_true}
use Rattle.fir_meaning.specs.working.LeafBlocks.{LeafStore}
use Rattle.fir_meaning.specs.working.LeafPairs.{LeafPair, leaf_pairs, partial_leaf_pairs}
use Rattle.fir_meaning.specs.working.Leafed.{first_term, terms, target_of, target_read}
use Rattle.fir_meaning.specs.FoundTypes.{type_where}
use Rattle.fir_meaning.specs.working.LeafedBlocks.{sides, instance_block, connect_block, leafed, leafed_all}
use Rattle.fir_meaning.specs.TreeValues.{ValuesByPath, value, aim_of, aim_read, aim_value}
use Rattle.fir_meaning.specs.working.TreeStores.{PathStore, LeafFacts, exec_connect, is_taken, exec_tree, exec_tree_all}
use Rattle.fir_leaf.specs.working.LeafLaws.{Begins, numbered, IsFine, IsSameStore, SameStores}
use Rattle.fir_leaf.proofs.PairsByNumber.{IsPair, ArePairs, pairs_numbered, partial_numbered}
use Rattle.fir_leaf.proofs.PairStores.{run, run_joined, NameSame, nothing_named, standing_named, pairs_same}
use Rattle.fir_leaf.proofs.InvalidStores.{invalid_same}
use Rattle.fir_leaf.proofs.TargetValues.{first_same}
use Rattle.fir_leaf.proofs.LeafValues.{reaches_stands, fine_values_same}
use Rattle.fir_leaf.proofs.ScopesBegin.{begins_through, begins_block}

module _ (modules : List ModuleTree) (whole : TypedScope) (fine : IsFine whole) (facts : LeafFacts) (env : ValuesByPath) where
  module _ (scope : TypedScope) (begins : Begins scope whole) where
    -- a source that is a reference names the same
    source_named : (e : Expression) (t : DataType) → HasType scope e t
        → NameSame whole fine facts env (type_leaves t) (target_read scope e) (aim_read scope facts.holds env e)
    source_named (reference p n ps) t h =
        let s : SinkReference = record { place = p; name = n; parts = ps } in
        let met = reaches_stands scope whole facts.holds env begins s h.1 (h.0, h.2, h.3) in
        subst (λ (u : DataType). NameSame whole fine facts env (type_leaves u) (Some (target_of scope s)) (aim_of scope facts.holds env s).at)
        (met.data_type ∙ sym h.4) (standing_named whole fine facts env (target_of scope s) (aim_of scope facts.holds env s) met.stands)
    source_named (literal l) t h = nothing_named whole fine facts env (type_leaves t)
    source_named (operation p op es ks) t h = nothing_named whole fine facts env (type_leaves t)
    source_named (mux p c a b) t h = nothing_named whole fine facts env (type_leaves t)
    source_named (validif p c a) t h = nothing_named whole fine facts env (type_leaves t)

    connect_same : (fits : DataType → DataType → Bool) (numbers_of : DataType → DataType → List LeafPair) (pairs_of : DataType → DataType → List Pair)
        → ((t u : DataType) → fits t u ≡ true → ArePairs (IsPair (type_leaves t) (type_leaves u)) (numbers_of t u) (pairs_of t u))
        → (p : Place) (s : SinkReference) (e : Expression) (taken : List Bool) (ns : LeafStore ℕ) (ps : PathStore) → ConnectIsLegal fits pairs_of scope s e
        → IsSameStore whole ns ps
        → IsSameStore whole (run whole fine facts env (connect_block numbers_of scope p s e) taken ns) (exec_connect facts env pairs_of scope s e taken ps)
    connect_same fits numbers_of pairs_of alike p s e taken ns ps h same =
        let met = reaches_stands scope whole facts.holds env begins s h.0 h.2 in
        let target = target_of scope s in
        let aim = aim_of scope facts.holds env s in
        let source : type_where (expression_type scope e).has ≡ h.1 = ap (λ c. type_where c.has) (found_type scope e h.1 h.3) in
        let sunk : aim.data_type ≡ h.0.data_type = sym met.stands.data_type ∙ met.data_type in
        let by_number : numbers_of target.data_type (type_where (expression_type scope e).has) ≡ numbers_of h.0.data_type h.1 =
        ap (λ u. numbers_of u (type_where (expression_type scope e).has)) met.data_type ∙ ap (numbers_of h.0.data_type) source in
        let by_path : pairs_of aim.data_type (type_where (expression_type scope e).has) ≡ pairs_of h.0.data_type h.1 =
        ap (λ u. pairs_of u (type_where (expression_type scope e).has)) sunk ∙ ap (pairs_of h.0.data_type) source in
        let named : NameSame whole fine facts env (type_leaves h.0.data_type) (Some target) aim.at =
        subst (λ (u : DataType). NameSame whole fine facts env (type_leaves u) (Some target) aim.at) met.data_type
        (standing_named whole fine facts env target aim met.stands) in
        rw (by_number, by_path)
        (pairs_same whole fine facts env (sides scope s e) (type_leaves h.0.data_type) (type_leaves h.1) aim.at (aim_read scope facts.holds env e)
        (value scope facts.holds env e) (aim_value facts.holds env aim) named (source_named e h.1 h.3)
        (fine_values_same scope whole facts.holds env begins fine e h.1 h.3)
        (fine_values_same scope whole facts.holds env begins fine (reference s.place s.name s.parts) h.0.data_type (h.2.0, h.0, h.2.1, h.2.2, refl))
        p taken (numbers_of h.0.data_type h.1) (pairs_of h.0.data_type h.1) ns ps (alike h.0.data_type h.1 h.4) same)

    condition_same : (c : Expression) (width : Option ℕ) → HasType scope c (uint width)
        → is_true (numbered whole facts.holds) (numbered whole env) (first_term (terms scope c)) ≡ is_taken facts env scope c
    condition_same c width h =
        ap (λ v. is_high (v ∷ []))
        (first_same (eval (numbered whole facts.holds) (numbered whole env)) (terms scope c) (value scope facts.holds env c [])
        (fine_values_same scope whole facts.holds env begins fine c (uint width) h))

  instance_stores : (scope : TypedScope) (child : Option (ℕ × ModuleTree)) (taken : List Bool) (ns : LeafStore ℕ)
      → run whole fine facts env (instance_block scope child) taken ns ≡ ns
  instance_stores scope None taken ns = refl
  instance_stores scope (Some child) taken ns = refl

  mutual
    statement_same : (s : Statement) (before : Before) (taken : List Bool) (ns : LeafStore ℕ) (ps : PathStore)
        → Begins (scope_at modules (behind before s)) whole → IsLegal modules before s → IsSameStore whole ns ps
        → IsSameStore whole (run whole fine facts env (leafed modules (numbered whole facts.may_drive) before s) taken ns)
        (exec_tree facts env modules before s taken ps)
    statement_same (wire p n begins t) before taken ns ps b h same = same
    statement_same (register p n begins t c r) before taken ns ps b h same = same
    statement_same (node p n e) before taken ns ps b h same = same
    statement_same (instance p n m) before taken ns ps b h same =
        rw (instance_stores (scope_at modules before) (numbered_module 0 modules m.name) taken ns) same
    statement_same (memory p n parts) before taken ns ps b h same = same
    statement_same (when p c a e) before taken ns ps b h same =
        let inside = behind_block (opened before) a in
        let behind_a : Begins (scope_at modules inside) whole =
        begins_through (scope_at modules inside) (scope_at modules (behind_block (reopened before inside) e)) whole
        (begins_block modules e (reopened before inside)) b in
        let at_c : Begins (scope_at modules before) whole =
        begins_through (scope_at modules before) (scope_at modules inside) whole (begins_block modules a (opened before)) behind_a in
        rw (condition_same (scope_at modules before) at_c c h.0 h.1)
        (block_same e (reopened before inside) (taken ++ not (is_taken facts env (scope_at modules before) c) ∷ []) _ _ b h.3
        (block_same a (opened before) (taken ++ is_taken facts env (scope_at modules before) c ∷ []) ns ps behind_a h.2 same))
    statement_same (connect p s e) before taken ns ps b h same =
        connect_same (scope_at modules before) b is_connectable leaf_pairs pairs pairs_numbered p s e taken ns ps h same
    statement_same (partial_connect p s e) before taken ns ps b h same =
        connect_same (scope_at modules before) b is_partly_connectable partial_leaf_pairs partial_pairs partial_numbered p s e taken ns ps h same
    statement_same (invalid p s) before taken ns ps b h same =
        let scope = scope_at modules before in
        let met = reaches_stands scope whole facts.holds env b s h.0 h.1 in
        invalid_same whole fine facts env p (target_of scope s) (aim_of scope facts.holds env s) met.stands taken ns ps same
    statement_same (skip p) before taken ns ps b h same = same

    pub block_same : (b : Block) (before : Before) (taken : List Bool) (ns : LeafStore ℕ) (ps : PathStore)
        → Begins (scope_at modules (behind_block before b)) whole → AreLegal modules before b → IsSameStore whole ns ps
        → IsSameStore whole (run whole fine facts env (leafed_all modules (numbered whole facts.may_drive) before b) taken ns)
        (exec_tree_all facts env modules before b taken ps)
    block_same done before taken ns ps b h same = same
    block_same ((then) s rest) before taken ns ps b h same =
        let next : Begins (scope_at modules (behind before s)) whole =
        begins_through (scope_at modules (behind before s)) (scope_at modules (behind_block (behind before s) rest)) whole
        (begins_block modules rest (behind before s)) b in
        let may = numbered whole facts.may_drive in
        rw (run_joined whole fine facts env (leafed modules may before s) (leafed_all modules may (behind before s) rest) taken ns)
        (block_same rest (behind before s) taken (run whole fine facts env (leafed modules may before s) taken ns)
        (exec_tree facts env modules before s taken ps) b h.1 (statement_same s before taken ns ps next h.0 same))

pub same_stores : SameStores
same_stores modules before whole facts env b taken by_number by_path fine begins legal same =
    block_same modules whole fine facts env b before taken by_number by_path begins legal same
