-- Each instance among a module's statements over leaves is a declaration of the module, and no two are one.
use Rattle.std.proofs.Common.{◌≡◌, ℕ, ◌+◌, ◌≤◌, List, [], ◌∷◌, ◌++◌, length, Bool, refl, sym, ap, ◌∙◌, subst, append_assoc, arith, length-append}
use Rattle.std.proofs.lemmas.List.{append-nil}
use Rattle.fir_ast.specs.Statements.{Statement, wire, register, node, instance, memory, when, connect, partial_connect, invalid, skip, Block, done, then}
use Rattle.fir_ast.specs.Circuits.{ModuleTree}
use Rattle.fir_meaning.specs.TypeLeaves.{leaf_count}
use Rattle.fir_meaning.specs.Components.{Declarations}
use Rattle.fir_meaning.specs.Components as component
use Rattle.fir_meaning.specs.Visibility.{Before, declaration_at, opened, reopened, behind, behind_block}
use Rattle.fir_meaning.specs.TypedScopes.{TypedScope}
use Rattle.fir_meaning.specs.ExpressionTypes.{expression_type}
use Rattle.fir_meaning.specs.TypeGroup.{scope_at}
use Rattle.fir_names.proofs.BehindStatements.{adds_statement, adds_block}
use Rattle.fir_meaning.specs.working.LeafPairs.{leaf_pairs, partial_leaf_pairs}
use Rattle.fir_meaning.specs.working.Leafed.{target_of}
use Rattle.fir_meaning.specs.FoundTypes.{type_where}
use Rattle.fir_meaning.specs.working.LeafedBlocks.{sides, leafed, leafed_all}
use Rattle.fir_leaf.specs.working.LeafLaws.{Begins}
use Rattle.fir_leaf.proofs.ScopesBegin.{begins_through, begins_behind, begins_block}
use Rattle.fir_design.proofs.HeldInstances.{all_held_in, held_joined}
use Rattle.fir_design.proofs.DrivingBlocks.{pairs_none, invalid_none}
use Rattle.fir_design.proofs.DeclaredInstances.{AreDeclared, Grows, none_declared, both_declared, instance_declared}

grows_before : (ds es added all : Declarations) → es ≡ ds ++ added → Grows es all → Grows ds all
grows_before ds es added all e g = (added ++ g.0, sym (append_assoc ds added g.0) ∙ ap (λ xs. xs ++ g.0) (sym e) ∙ g.1)

grows_block : (before : Before) (b : Block) (all : Declarations) → Grows (behind_block before b).declared all → Grows before.declared all
grows_block before b all g = let a = adds_block before b in grows_before before.declared (behind_block before b).declared a.added all a.declared g

longer : (ds es added : Declarations) → es ≡ ds ++ added → length ds ≤ length es
longer ds es added e = let long : length es ≡ length (ds ++ added) = ap length e in omega (arith, long, length-append ds added)

pub longer_statement : (before : Before) (s : Statement) → length before.declared ≤ length (behind before s).declared
longer_statement before s = let a = adds_statement before s in longer before.declared (behind before s).declared a.added a.declared

pub longer_block : (before : Before) (b : Block) → length before.declared ≤ length (behind_block before b).declared
longer_block before b = let a = adds_block before b in longer before.declared (behind_block before b).declared a.added a.declared

module _ (modules : List ModuleTree) (start : TypedScope) (all : Declarations) (may : ℕ → Bool) where
  mutual
    statement_declared : (s : Statement) (before : Before) (k : ℕ) → before.depth ≡ k → Begins start (scope_at modules before)
        → Grows (behind before s).declared all
        → AreDeclared modules start all (length before.declared) (length (behind before s).declared) (all_held_in k (leafed modules may before s))
    statement_declared (instance p n m) before k deep begins g =
        let d = declaration_at before n (component.instance m.name) in
        instance_declared modules start all before n m.name k (length (before.declared ++ d ∷ [])) deep begins g
        (omega (arith, length-append before.declared (d ∷ [])))
    statement_declared (when p c a b) before k deep begins g =
        let first = opened before in
        let inside = behind_block first a in
        let second = reopened before inside in
        let one = all_held_in (k + 1) (leafed_all modules may first a) in
        let other = all_held_in (k + 1) (leafed_all modules may second b) in
        subst (AreDeclared modules start all (length before.declared) (length (behind_block second b).declared)) (sym (append-nil (one ++ other)))
        (both_declared modules start all (length before.declared) (length inside.declared) (length (behind_block second b).declared) one other
        (longer_block first a) (longer_block second b)
        (block_declared a first (k + 1) (ap (λ j. j + 1) deep) begins (grows_block second b all g))
        (block_declared b second (k + 1) (ap (λ j. j + 1) deep)
        (begins_through start (scope_at modules before) (scope_at modules inside) begins (begins_block modules a first)) g))
    statement_declared (connect p s e) before k deep begins g =
        let scope = scope_at modules before in
        none_declared modules start all (length before.declared) (length before.declared) _
        (pairs_none k p (sides scope s e) (leaf_pairs (target_of scope s).data_type (type_where (expression_type scope e).has)))
    statement_declared (partial_connect p s e) before k deep begins g =
        let scope = scope_at modules before in
        none_declared modules start all (length before.declared) (length before.declared) _
        (pairs_none k p (sides scope s e) (partial_leaf_pairs (target_of scope s).data_type (type_where (expression_type scope e).has)))
    statement_declared (invalid p s) before k deep begins g =
        let r = target_of (scope_at modules before) s in
        none_declared modules start all (length before.declared) (length before.declared) _ (invalid_none may k p r 0 (leaf_count r.data_type))
    statement_declared (wire p n b t) before k deep begins g = none_declared modules start all (length before.declared) _ [] refl
    statement_declared (register p n b t c r) before k deep begins g = none_declared modules start all (length before.declared) _ [] refl
    statement_declared (node p n e) before k deep begins g = none_declared modules start all (length before.declared) _ [] refl
    statement_declared (memory p n parts) before k deep begins g = none_declared modules start all (length before.declared) _ [] refl
    statement_declared (skip p) before k deep begins g = none_declared modules start all (length before.declared) _ [] refl

    pub block_declared : (b : Block) (before : Before) (k : ℕ) → before.depth ≡ k → Begins start (scope_at modules before)
        → Grows (behind_block before b).declared all
        → AreDeclared modules start all (length before.declared) (length (behind_block before b).declared)
        (all_held_in k (leafed_all modules may before b))
    block_declared done before k deep begins g = none_declared modules start all (length before.declared) _ [] refl
    block_declared ((then) s b) before k deep begins g =
        let next = behind before s in
        subst (AreDeclared modules start all (length before.declared) (length (behind_block next b).declared))
        (sym (held_joined k (leafed modules may before s) (leafed_all modules may next b)))
        (both_declared modules start all (length before.declared) (length next.declared) (length (behind_block next b).declared)
        (all_held_in k (leafed modules may before s)) (all_held_in k (leafed_all modules may next b))
        (longer_statement before s) (longer_block next b)
        (statement_declared s before k deep begins (grows_block next b all g))
        (block_declared b next k ((adds_statement before s).depth ∙ deep)
        (begins_through start (scope_at modules before) (scope_at modules next) begins (begins_behind modules s before)) g))
