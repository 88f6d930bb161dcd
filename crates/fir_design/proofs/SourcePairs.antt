-- What the pairs of a connect store by numbers they store by paths.
use Rattle.std.proofs.Common.{◌≡◌, ℕ, List, [], ◌∷◌, Bool, true, false, if◌then◌else◌, slice_get, Some, refl, ap, ◌∙◌}
use Rattle.fir_ast.specs.declared.place.Place.{Place}
use Rattle.fir_ast.specs.Expressions.{Expression}
use Rattle.fir_ast.specs.Statements.{SinkReference}
use Rattle.fir_meaning.specs.ConnectPairs.{Pair}
use Rattle.fir_meaning.specs.LeafPaths.{LeafPath}
use Rattle.fir_meaning.specs.TypeLeaves.{TypeLeaf}
use Rattle.fir_meaning.specs.TypedScopes.{TypedScope}
use Rattle.fir_meaning.specs.PathStores.{DesignStore}
use Rattle.fir_leaf.specs.working.LeafLaws.{path_at}
use Rattle.fir_meaning.specs.working.LeafModules.{LeafModule}
use Rattle.fir_meaning.specs.working.LeafPairs.{LeafPair}
use Rattle.fir_meaning.specs.working.Leafed.{target_of, target_read, target_terms, terms}
use Rattle.fir_meaning.specs.working.LeafedBlocks.{Sides, driven_where, pair_block, pairs_block, sides, term_at}
use Rattle.fir_meaning.specs.ModuleScenes.{Scene}
use Rattle.fir_meaning.specs.working.LeafedModules.{leafed_module}
use Rattle.fir_meaning.specs.working.Terms.{Term}
use Rattle.fir_meaning.specs.TreeValues.{TypesByPath, ValuesByPath, aim_of, aim_read, leaf_where}
use Rattle.fir_leaf.proofs.PairsByNumber.{IsPair, ArePairs}
use Rattle.fir_meaning.specs.SourceStores.{Gifts, below, source_kept, source_pair, source_pairs}
use Rattle.fir_design.proofs.FineScenes.{IsFineScene, whole_scope}
use Rattle.fir_design.proofs.KeptLeaves.{NameSame, driven_kept}
use Rattle.fir_design.proofs.RunBlocks.{run, run_joined}

module _ {V : Type 0} (s : Scene) (f : IsFineScene s) (holds : TypesByPath) (env : ValuesByPath)
    (given : LeafPath → LeafModule → ℕ → Term → V)
    (path : LeafPath) (gifts : Gifts V) (child : List ℕ → DesignStore V → DesignStore V) where
  -- both sides name leaves, and what they give is the same
  pub record SameSides (scope : TypedScope) (sink : SinkReference) (e : Expression) (lefts rights : List TypeLeaf) : Type 0 where
    pub left : NameSame s path holds env lefts (Some (target_of scope sink)) (aim_of scope (below path holds) (below path env) sink).at
    pub right : NameSame s path holds env rights (target_read scope e) (aim_read scope (below path holds) (below path env) e)
    pub gives : (k : ℕ) (l : TypeLeaf) (y : ℕ) → slice_get rights k ≡ Some l
        → given path (leafed_module s) y (term_at (terms scope e) k) ≡ gifts.of_expression scope e l.path (path_at (whole_scope s) y)
    pub gives_back : (k : ℕ) (l : TypeLeaf) (y : ℕ) → slice_get lefts k ≡ Some l
        → given path (leafed_module s) y (term_at (target_terms (target_of scope sink)) k)
        ≡ gifts.of_sink scope sink l.path (path_at (whole_scope s) y)

  module _ (scope : TypedScope) (sink : SinkReference) (e : Expression) (lefts rights : List TypeLeaf) (same : SameSides scope sink e lefts rights) (p : Place)
      (taken : List Bool) where
    abbrev both : Sides
    both = sides scope sink e

    pair_kept : (n : LeafPair) (pair : Pair) (store : DesignStore V) → IsPair lefts rights n pair
        → run holds env given path (leafed_module s) child (pair_block p (sides scope sink e) n) taken store
        ≡ source_pair s (below path holds) (below path env) gifts path child scope sink e taken pair store
    pair_kept n pair store w = by n.flip pair.left.flip w.flip
      where
        by : (a b : Bool) → a ≡ b
            → run holds env given path (leafed_module s) child
            (if a
            then driven_where p both.right n.right (term_at both.gives_back n.left)
            else driven_where p (Some both.left) n.left (term_at both.gives n.right)) taken store
            ≡ (if b
            then source_kept s (below path holds) (below path env) gifts path child
            (leaf_where (aim_read scope (below path holds) (below path env) e) pair.right.path) (gifts.of_sink scope sink pair.left.path) taken store
            else source_kept s (below path holds) (below path env) gifts path child
            (leaf_where (aim_of scope (below path holds) (below path env) sink).at pair.left.path) (gifts.of_expression scope e pair.right.path)
            taken store)
        by true true h =
            driven_kept s f holds env given path gifts child p rights both.right
            (aim_read scope (below path holds) (below path env) e) n.right pair.right
            (term_at both.gives_back n.left) (gifts.of_sink scope sink pair.left.path) taken store same.right w.right
            (λ y. same.gives_back n.left pair.left y w.left)
        by false false h =
            driven_kept s f holds env given path gifts child p lefts (Some both.left)
            (aim_of scope (below path holds) (below path env) sink).at n.left
            pair.left (term_at both.gives n.right) (gifts.of_expression scope e pair.right.path) taken store same.left w.left
            (λ y. same.gives n.right pair.right y w.right)
        by true false h = absurd (cc)
        by false true h = absurd (cc)

    pub pairs_kept : (ns : List LeafPair) (qs : List Pair) (store : DesignStore V) → ArePairs (IsPair lefts rights) ns qs
        → run holds env given path (leafed_module s) child (pairs_block p (sides scope sink e) ns) taken store
        ≡ source_pairs s (below path holds) (below path env) gifts path child scope sink e taken qs store
    pairs_kept [] [] store h = refl
    pairs_kept [] (q ∷ qs) store h = absurd h
    pairs_kept (n ∷ ns) [] store h = absurd h
    pairs_kept (n ∷ ns) (q ∷ qs) store h =
        run_joined holds env given path (leafed_module s) child (pair_block p (sides scope sink e) n)
        (pairs_block p (sides scope sink e) ns) taken store
        ∙ ap (run holds env given path (leafed_module s) child (pairs_block p (sides scope sink e) ns) taken) (pair_kept n q store h.0)
        ∙ pairs_kept ns qs (source_pair s (below path holds) (below path env) gifts path child scope sink e taken q store) h.1
