-- What the statements of a module's view store by its own table: at each leaf what the tree's statements store at its path.
use Rattle.std.proofs.Common.{◌≡◌, ℕ, ◌<◌, List, [], length, Bool, slice_index_or, Option, None, refl, sym, ap, ◌∙◌, subst}
use Rattle.std.proofs.lemmas.List.{length-map}
use Rattle.std.proofs.Math.ListN.{get_or-map}
use Rattle.fir_base.specs.Lists.{In}
use Rattle.fir_ast.specs.Circuits.{CircuitTree}
use Rattle.fir_meaning.specs.LeafPaths.{LeafPath}
use Rattle.fir_meaning.specs.working.NameGroups.{HasNames}
use Rattle.fir_meaning.specs.TypeGroup.{type_faults}
use Rattle.fir_meaning.specs.TypedScopes.{TypedScope}
use Rattle.fir_meaning.specs.ComponentTypes.{typed_scope}
use Rattle.fir_meaning.specs.Visibility.{declarations}
use Rattle.fir_meaning.specs.SizedDeclarations.{numbered_modules}
use Rattle.fir_meaning.proofs.WellTypedCircuits.{well_typed}
use Rattle.fir_meaning.specs.working.Terms.{Term}
use Rattle.fir_meaning.specs.working.TermValues.{Holds}
use Rattle.fir_meaning.specs.working.LeafBlocks.{LeafBlock, exec_all, nothing_stored}
use Rattle.fir_leaf.specs.working.ChoiceLaws.{fitted_at}
use Rattle.fir_meaning.specs.working.LeafModules.{LeafDeclared, depth_at, leaf_at, no_leaf}
use Rattle.fir_meaning.specs.working.LeafedBlocks.{leafed_all}
use Rattle.fir_meaning.specs.ModuleScenes.{Scene, behind_all_ports}
use Rattle.fir_meaning.specs.working.LeafedModules.{driven_leaves, leafed_module, module_leaves}
use Rattle.fir_leaf.specs.working.LeafNumbers.{TermWithin, BlockWithin}
use Rattle.fir_meaning.specs.TreeValues.{ValuesByPath}
use Rattle.fir_meaning.specs.working.TreeStores.{LeafFacts, exec_tree_all}
use Rattle.fir_leaf.specs.working.LeafLaws.{scope_paths, path_at, numbered, number_given}
use Rattle.fir_leaf.specs.working.TableLaws.{NumbersAreLeaves, SayTheTable, TableStores, table_holds, table_values}
use Rattle.fir_leaf.proofs.ScopesBegin.{begins_all}
use Rattle.fir_leaf.proofs.ModuleStores.{same_module_stores}
use Rattle.fir_leaf.proofs.BlockNumbers.{block_alike, block_within}
use Rattle.fir_leaf.proofs.DeclaredLeaves.{own_module, leaves_declared}
use Rattle.fir_leaf.proofs.SameTables.{SameStore, value_alike}
use Rattle.fir_leaf.proofs.SameTables as tables

abbrev path_of : LeafDeclared → LeafPath
path_of l = l.path

module _ (c : CircuitTree) (s : Scene) (names : HasNames c) (types : type_faults c ≡ []) (i : In (numbered_modules c) s.own) where
  abbrev leaves : List LeafDeclared
  leaves = module_leaves s

  abbrev whole : TypedScope
  whole = typed_scope c.modules (declarations s.own.inside)

  -- the two number leaves alike
  as_many : length (scope_paths whole) ≡ length leaves
  as_many = ap length (sym (leaves_declared c s i)) ∙ length-map leaves path_of

  same_path : (k : ℕ) → path_at whole k ≡ (leaf_at leaves k).path
  same_path k = ap (λ ps. slice_index_or ps k []) (sym (leaves_declared c s i)) ∙ get_or-map path_of leaves k no_leaf

  body_within : (may : ℕ → Bool)
      → BlockWithin (length leaves) (leafed_all c.modules may (behind_all_ports s.own.inside) s.own.inside.body)
  body_within may =
      let own = own_module c s.own i in
      subst (λ n. BlockWithin n (leafed_all c.modules may (behind_all_ports s.own.inside) s.own.inside.body)) as_many
      (block_within c.modules whole may s.own.inside.body (behind_all_ports s.own.inside) (begins_all whole)
      ((well_typed c names).0 types s.own.inside own.inside))

  module _ (facts : LeafFacts) (env : ValuesByPath) (say : SayTheTable leaves facts) where
    abbrev holds : Holds
    holds = table_holds (leafed_module s)

    abbrev numbers : ℕ → ℕ
    numbers = table_values (leafed_module s) env

    same_holds : (k : ℕ) → k < length leaves → table_holds (leafed_module s) k ≡ numbered whole facts.holds k
    same_holds k lt = sym (ap facts.holds (same_path k) ∙ say.holds k lt)

    same_depth : (k : ℕ) → k < length leaves → depth_at (leafed_module s) k ≡ numbered whole facts.depth k
    same_depth k lt = sym (ap facts.depth (same_path k) ∙ say.depth k lt)

    same_numbers : (k : ℕ) → k < length leaves → table_values (leafed_module s) env k ≡ numbered whole env k
    same_numbers k lt = ap env (sym (same_path k))

    same_given : (k : ℕ) (t : Term) → k < length leaves → TermWithin (length leaves) t
        → fitted_at (table_holds (leafed_module s)) (table_values (leafed_module s) env) k t ≡ number_given whole facts.holds env k t
    same_given k t lt h =
        rw (
          value_alike (length leaves) holds (numbered whole facts.holds) numbers (numbered whole env) same_holds same_numbers t h,
          same_holds k lt,
        )
        refl

    same_body : leafed_all c.modules (driven_leaves s) (behind_all_ports s.own.inside) s.own.inside.body
        ≡ leafed_all c.modules (numbered whole facts.may_drive) (behind_all_ports s.own.inside) s.own.inside.body
    same_body =
        let own = own_module c s.own i in
        block_alike c.modules whole (driven_leaves s) (numbered whole facts.may_drive)
        (λ k lt. sym (ap facts.may_drive (same_path k) ∙ say.may_drive k (subst (λ n. k < n) as_many lt)))
        s.own.inside.body (behind_all_ports s.own.inside) (begins_all whole) ((well_typed c names).0 types s.own.inside own.inside)

    stores_alike : (k : ℕ) → k < length leaves
        → exec_all holds (depth_at (leafed_module s)) numbers (fitted_at holds numbers)
        (leafed_all c.modules (driven_leaves s) (behind_all_ports s.own.inside) s.own.inside.body) [] nothing_stored k
        ≡ exec_tree_all facts env c.modules (behind_all_ports s.own.inside) s.own.inside.body [] (λ x. None) (leaf_at leaves k).path
    stores_alike k lt =
        let own = own_module c s.own i in
        let body = leafed_all c.modules (numbered whole facts.may_drive) (behind_all_ports s.own.inside) s.own.inside.body in
        let same : SameStore nothing_stored nothing_stored = record { each = λ x. refl } in
        ap (λ b. exec_all holds (depth_at (leafed_module s)) numbers (fitted_at holds numbers) b [] nothing_stored k) same_body
        ∙ (tables.block_alike (length leaves) holds (numbered whole facts.holds) numbers (numbered whole env) same_holds same_numbers
        (depth_at (leafed_module s)) (numbered whole facts.depth) same_depth (fitted_at holds numbers) (number_given whole facts.holds env) same_given
        body [] nothing_stored nothing_stored (body_within (numbered whole facts.may_drive)) same).each k
        ∙ (same_module_stores c s.own.inside facts env names types own.inside).each k (subst (λ n. k < n) (sym as_many) lt)
        ∙ ap (exec_tree_all facts env c.modules (behind_all_ports s.own.inside) s.own.inside.body [] (λ x. None)) (same_path k)

pub numbers_are_leaves : NumbersAreLeaves
numbers_are_leaves c s names types i =
    let own = own_module c s.own i in
    subst (λ ms. BlockWithin (length (module_leaves s)) (leafed_all ms (driven_leaves s) (behind_all_ports s.own.inside) s.own.inside.body)) (sym own.modules)
    (body_within c s names types i (driven_leaves s))

pub table_stores : TableStores
table_stores c s facts env names types i say k lt =
    let own = own_module c s.own i in
    let m = leafed_module s in
    let run : LeafBlock → Option ℕ = λ b.
    exec_all (table_holds m) (depth_at m) (table_values m env) (fitted_at (table_holds m) (table_values m env)) b [] nothing_stored k in
    ap (λ ms. run (leafed_all ms (driven_leaves s) (behind_all_ports s.own.inside) s.own.inside.body)) own.modules
    ∙ stores_alike c s names types i facts env say k lt
