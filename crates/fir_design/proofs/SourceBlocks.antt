-- The statements of a module over its leaves store what its text's statements store by paths.
use Rattle.std.proofs.Common.{◌≡◌, ℕ, List, [], ◌∷◌, ◌++◌, Bool, not, Option, Some, refl, ap, ap₂, ◌∙◌, inl}
use Rattle.fir_base.proofs.Members.{in_left, in_right}
use Rattle.fir_ast.specs.Types.{uint}
use Rattle.fir_ast.specs.Expressions.{Expression}
use Rattle.fir_ast.specs.Statements.{PlacedName, Statement, wire, register, node, instance, memory, when, connect, partial_connect, invalid, skip, Block, done, then}
use Rattle.fir_ast.specs.Circuits.{ModuleTree}
use Rattle.fir_meaning.specs.ConnectPairs.{pairs, partial_pairs}
use Rattle.fir_meaning.specs.Equivalence.{is_connectable, is_partly_connectable}
use Rattle.fir_meaning.specs.Values.{is_high}
use Rattle.fir_meaning.specs.LeafPaths.{LeafPath}
use Rattle.fir_meaning.specs.ResetJoins.{numbered_module}
use Rattle.fir_meaning.specs.TypeGroup.{scope_at}
use Rattle.fir_meaning.specs.TypedScopes.{TypedScope}
use Rattle.fir_meaning.specs.Visibility.{Before, opened, reopened, behind, behind_block, declarations}
use Rattle.fir_meaning.specs.working.WellTyped.{AreLegal, HasType, IsLegal}
use Rattle.fir_meaning.specs.working.DesignPaths.{seen}
use Rattle.fir_meaning.specs.PathStores.{DesignStore}
use Rattle.fir_leaf.specs.working.LeafLaws.{Begins}
use Rattle.fir_meaning.specs.working.LeafModules.{LeafModule}
use Rattle.fir_meaning.specs.working.LeafPairs.{leaf_pairs, partial_leaf_pairs}
use Rattle.fir_meaning.specs.working.Leafed.{first_term, target_of, terms}
use Rattle.fir_meaning.specs.working.LeafedBlocks.{instance_block, leafed, leafed_all}
use Rattle.fir_meaning.specs.ModuleScenes.{Scene}
use Rattle.fir_meaning.specs.working.LeafedModules.{driven_leaves, leafed_module}
use Rattle.fir_meaning.specs.working.Terms.{Term}
use Rattle.fir_meaning.specs.working.TermValues.{eval, is_true}
use Rattle.fir_meaning.specs.TreeValues.{TypesByPath, ValuesByPath, aim_of, value}
use Rattle.fir_leaf.proofs.LeafValues.{fine_values_same, reaches_stands}
use Rattle.fir_leaf.proofs.PairsByNumber.{pairs_numbered, partial_numbered}
use Rattle.fir_leaf.proofs.ScopesBegin.{begins_block, begins_through}
use Rattle.fir_leaf.proofs.TargetValues.{first_same}
use Rattle.fir_meaning.specs.SourceDesigns.{instances_of, instances_of_block}
use Rattle.fir_meaning.specs.SourceStores.{Gifts, below, exec_source, exec_source_all, source_is_taken}
use Rattle.fir_design.proofs.DeclaredInstances.{Grows}
use Rattle.fir_design.proofs.FineScenes.{IsFineScene, whole_scope}
use Rattle.fir_design.proofs.RunBlocks.{run, run_joined}
use Rattle.fir_design.proofs.SeenPaths.{seen_is}
use Rattle.fir_design.proofs.SourceConnects.{Gives, connect_kept}
use Rattle.fir_design.proofs.SourceInstances.{AreFound, declared_name, grows_before}
use Rattle.fir_design.proofs.SourceInvalids.{invalid_kept}

module _ {V : Type 0} (s : Scene) (f : IsFineScene s) (holds : TypesByPath) (env : ValuesByPath)
    (given : LeafPath → LeafModule → ℕ → Term → V) (path : LeafPath) (gifts : Gifts V) (gives : Gives s given path gifts)
    (child : List ℕ → DesignStore V → DesignStore V) where
  condition_kept : (scope : TypedScope) → Begins scope (whole_scope s) → (c : Expression) (width : Option ℕ) → HasType scope c (uint width)
      → is_true (seen path (leafed_module s) holds) (seen path (leafed_module s) env) (first_term (terms scope c))
      ≡ source_is_taken s (below path holds) (below path env) gifts path child scope c
  condition_kept scope begins c width h =
      ap₂ (λ a b. is_true a b (first_term (terms scope c))) (seen_is s f path holds) (seen_is s f path env)
      ∙ ap (λ v. is_high (v ∷ []))
      (first_same (eval _ _) (terms scope c) (value scope (below path holds) (below path env) c [])
      (fine_values_same scope (whole_scope s) (below path holds) (below path env) begins f.fine c (uint width) h))

  instance_kept : (scope : TypedScope) (n : PlacedName) (found : Option (ℕ × ModuleTree)) (known : ℕ × ModuleTree) (taken : List Bool)
      (store : DesignStore V) → found ≡ Some known
      → ((c : ℕ × ModuleTree)
      → run holds env given path (leafed_module s) child (instance_block scope (Some c)) taken store ≡ child n.name store)
      → run holds env given path (leafed_module s) child (instance_block scope found) taken store ≡ child n.name store
  instance_kept scope n found known taken store e one = rw e (one known)

  mutual
    statement_kept : (x : Statement) (before : Before) (taken : List Bool) (store : DesignStore V)
        → Begins (scope_at s.own.modules (behind before x)) (whole_scope s) → Grows (behind before x).declared (declarations s.own.inside)
        → AreFound s.own.modules (declarations s.own.inside) (instances_of x) → IsLegal s.own.modules before x
        → run holds env given path (leafed_module s) child (leafed s.own.modules (driven_leaves s) before x) taken store
        ≡ exec_source s (below path holds) (below path env) gifts path child before x taken store
    statement_kept (wire p n begins t) before taken store b g found h = refl
    statement_kept (register p n begins t c r) before taken store b g found h = refl
    statement_kept (node p n e) before taken store b g found h = refl
    statement_kept (memory p n parts) before taken store b g found h = refl
    statement_kept (skip p) before taken store b g found h = refl
    statement_kept (instance p n other) before taken store b g found h =
        let known = found (record { named = n; other = other }) (inl refl) in
        instance_kept (scope_at s.own.modules before) n (numbered_module 0 s.own.modules other.name) known.0 taken store known.1
        (λ c. ap (λ name. child name store) (declared_name s.own.modules (declarations s.own.inside) before n other.name g))
    statement_kept (when p c a e) before taken store b g found h =
        let inside = behind_block (opened before) a in
        let modules = s.own.modules in
        let all = declarations s.own.inside in
        let behind_a : Begins (scope_at modules inside) (whole_scope s) =
        begins_through (scope_at modules inside) (scope_at modules (behind_block (reopened before inside) e)) (whole_scope s)
        (begins_block modules e (reopened before inside)) b in
        let at_c : Begins (scope_at modules before) (whole_scope s) =
        begins_through (scope_at modules before) (scope_at modules inside) (whole_scope s) (begins_block modules a (opened before)) behind_a in
        let high = source_is_taken s (below path holds) (below path env) gifts path child (scope_at modules before) c in
        let may = driven_leaves s in
        let second = leafed_all modules may (reopened before inside) e in
        rw (condition_kept (scope_at modules before) at_c c h.0 h.1)
        (ap (run holds env given path (leafed_module s) child second (taken ++ not high ∷ []))
        (block_kept a (opened before) (taken ++ high ∷ []) store behind_a (grows_before (reopened before inside) e all g)
        (λ i m. found i (in_left (instances_of_block a) (instances_of_block e) i m)) h.2)
        ∙ block_kept e (reopened before inside) (taken ++ not high ∷ [])
        (exec_source_all s (below path holds) (below path env) gifts path child (opened before) a (taken ++ high ∷ []) store) b g
        (λ i m. found i (in_right (instances_of_block a) (instances_of_block e) i m)) h.3)
    statement_kept (connect p sink e) before taken store b g found h =
        connect_kept s f holds env given path gifts gives child (scope_at s.own.modules before) b is_connectable
        leaf_pairs pairs pairs_numbered p sink e taken store h
    statement_kept (partial_connect p sink e) before taken store b g found h =
        connect_kept s f holds env given path gifts gives child (scope_at s.own.modules before) b is_partly_connectable
        partial_leaf_pairs partial_pairs partial_numbered p sink e taken store h
    statement_kept (invalid p sink) before taken store b g found h =
        let scope = scope_at s.own.modules before in
        let met = reaches_stands scope (whole_scope s) (below path holds) (below path env) b sink h.0 h.1 in
        invalid_kept s f holds env given path gifts child gives.invalid p (target_of scope sink)
        (aim_of scope (below path holds) (below path env) sink) met.stands taken store

    pub block_kept : (x : Block) (before : Before) (taken : List Bool) (store : DesignStore V)
        → Begins (scope_at s.own.modules (behind_block before x)) (whole_scope s)
        → Grows (behind_block before x).declared (declarations s.own.inside)
        → AreFound s.own.modules (declarations s.own.inside) (instances_of_block x) → AreLegal s.own.modules before x
        → run holds env given path (leafed_module s) child (leafed_all s.own.modules (driven_leaves s) before x) taken store
        ≡ exec_source_all s (below path holds) (below path env) gifts path child before x taken store
    block_kept done before taken store b g found h = refl
    block_kept ((then) x rest) before taken store b g found h =
        let next = behind before x in
        let modules = s.own.modules in
        let first = leafed modules (driven_leaves s) before x in
        let later = leafed_all modules (driven_leaves s) next rest in
        let here : Begins (scope_at modules next) (whole_scope s) =
        begins_through (scope_at modules next) (scope_at modules (behind_block next rest)) (whole_scope s) (begins_block modules rest next) b in
        run_joined holds env given path (leafed_module s) child first later taken store
        ∙ ap (run holds env given path (leafed_module s) child later taken)
        (statement_kept x before taken store here (grows_before next rest (declarations s.own.inside) g)
        (λ i m. found i (in_left (instances_of x) (instances_of_block rest) i m)) h.0)
        ∙ block_kept rest next taken (exec_source s (below path holds) (below path env) gifts path child before x taken store) b g
        (λ i m. found i (in_right (instances_of x) (instances_of_block rest) i m)) h.1
