-- A connect over leaves stores what the connect of the text stores by paths.
use Rattle.std.proofs.Common.{◌≡◌, ℕ, List, Bool, true, slice_get, Some, sym, ap, ap₂, ◌∙◌, subst}
use Rattle.fir_ast.specs.declared.place.Place.{Place}
use Rattle.fir_ast.specs.Types.{DataType}
use Rattle.fir_ast.specs.Expressions.{Expression, reference, literal, operation, mux, validif}
use Rattle.fir_ast.specs.Statements.{SinkReference}
use Rattle.fir_meaning.specs.ConnectPairs.{Pair}
use Rattle.fir_meaning.specs.ExpressionTypes.{expression_type}
use Rattle.fir_meaning.specs.LeafPaths.{LeafPath}
use Rattle.fir_meaning.specs.Reaching.{Reached}
use Rattle.fir_meaning.specs.TypeLeaves.{TypeLeaf, type_leaves}
use Rattle.fir_meaning.specs.TypedScopes.{TypedScope}
use Rattle.fir_meaning.specs.working.WellTyped.{ConnectIsLegal, HasType, Reaches}
use Rattle.fir_meaning.proofs.FoundTypes.{found_type}
use Rattle.fir_meaning.specs.PathStores.{DesignStore}
use Rattle.fir_leaf.specs.working.LeafLaws.{Begins, path_at}
use Rattle.fir_meaning.specs.working.LeafModules.{LeafModule}
use Rattle.fir_meaning.specs.working.LeafPairs.{LeafPair}
use Rattle.fir_meaning.specs.working.Leafed.{target_of, target_read, target_terms, terms}
use Rattle.fir_meaning.specs.working.LeafedBlocks.{connect_block, term_at}
use Rattle.fir_meaning.specs.FoundTypes.{type_where}
use Rattle.fir_meaning.specs.ModuleScenes.{Scene}
use Rattle.fir_meaning.specs.working.LeafedModules.{leafed_module}
use Rattle.fir_meaning.specs.working.Terms.{Term, zeros}
use Rattle.fir_meaning.specs.TreeValues.{TypesByPath, ValuesByPath, aim_of, aim_read}
use Rattle.fir_leaf.proofs.LeafValues.{reaches_stands}
use Rattle.fir_leaf.proofs.PairsByNumber.{IsPair, ArePairs}
use Rattle.fir_meaning.specs.SourceStores.{Gifts, below, source_connect}
use Rattle.fir_design.proofs.FineScenes.{IsFineScene, whole_scope}
use Rattle.fir_design.proofs.KeptLeaves.{NameSame, nothing_named, standing_named}
use Rattle.fir_design.proofs.RunBlocks.{run}
use Rattle.fir_design.proofs.SourcePairs.{SameSides, pairs_kept}

-- a term at the number of a leaf gives what is given by paths
pub record Gives {V : Type 0} (s : Scene) (given : LeafPath → LeafModule → ℕ → Term → V) (path : LeafPath) (gifts : Gifts V) : Type 0 where
  pub expression : (scope : TypedScope) (e : Expression) (t : DataType) (k : ℕ) (l : TypeLeaf) (y : ℕ) → Begins scope (whole_scope s)
      → HasType scope e t → slice_get (type_leaves t) k ≡ Some l
      → given path (leafed_module s) y (term_at (terms scope e) k) ≡ gifts.of_expression scope e l.path (path_at (whole_scope s) y)
  pub sink : (scope : TypedScope) (sink : SinkReference) (r : Reached) (k : ℕ) (l : TypeLeaf) (y : ℕ) → Begins scope (whole_scope s)
      → Reaches scope sink r → slice_get (type_leaves r.data_type) k ≡ Some l
      → given path (leafed_module s) y (term_at (target_terms (target_of scope sink)) k)
      ≡ gifts.of_sink scope sink l.path (path_at (whole_scope s) y)
  pub invalid : (y : ℕ) → given path (leafed_module s) y zeros ≡ gifts.of_invalid (path_at (whole_scope s) y)

module _ {V : Type 0} (s : Scene) (f : IsFineScene s) (holds : TypesByPath) (env : ValuesByPath)
    (given : LeafPath → LeafModule → ℕ → Term → V) (path : LeafPath) (gifts : Gifts V) (gives : Gives s given path gifts)
    (child : List ℕ → DesignStore V → DesignStore V) where
  module _ (scope : TypedScope) (begins : Begins scope (whole_scope s)) where
    -- a source that is a reference names the same
    source_named : (e : Expression) (t : DataType) → HasType scope e t
        → NameSame s path holds env (type_leaves t) (target_read scope e) (aim_read scope (below path holds) (below path env) e)
    source_named (reference p n ps) t h =
        let sink : SinkReference = record { place = p; name = n; parts = ps } in
        let met = reaches_stands scope (whole_scope s) (below path holds) (below path env) begins sink h.1 (h.0, h.2, h.3) in
        let aim = aim_of scope (below path holds) (below path env) sink in
        subst (λ (u : DataType). NameSame s path holds env (type_leaves u) (Some (target_of scope sink)) aim.at)
        (met.data_type ∙ sym h.4) (standing_named s path holds env f (target_of scope sink) aim met.stands)
    source_named (literal l) t h = nothing_named s path holds env (type_leaves t)
    source_named (operation p op es ks) t h = nothing_named s path holds env (type_leaves t)
    source_named (mux p c a b) t h = nothing_named s path holds env (type_leaves t)
    source_named (validif p c a) t h = nothing_named s path holds env (type_leaves t)

    pub connect_kept : (fits : DataType → DataType → Bool) (numbers_of : DataType → DataType → List LeafPair)
        (pairs_of : DataType → DataType → List Pair)
        → ((t u : DataType) → fits t u ≡ true → ArePairs (IsPair (type_leaves t) (type_leaves u)) (numbers_of t u) (pairs_of t u))
        → (p : Place) (sink : SinkReference) (e : Expression) (taken : List Bool) (store : DesignStore V) → ConnectIsLegal fits pairs_of scope sink e
        → run holds env given path (leafed_module s) child (connect_block numbers_of scope p sink e) taken store
        ≡ source_connect s (below path holds) (below path env) gifts path child pairs_of scope sink e taken store
    connect_kept fits numbers_of pairs_of alike p sink e taken store h =
        let met = reaches_stands scope (whole_scope s) (below path holds) (below path env) begins sink h.0 h.2 in
        let target = target_of scope sink in
        let aim = aim_of scope (below path holds) (below path env) sink in
        let source : type_where (expression_type scope e).has ≡ h.1 = ap (λ c. type_where c.has) (found_type scope e h.1 h.3) in
        let by_number : numbers_of target.data_type (type_where (expression_type scope e).has) ≡ numbers_of h.0.data_type h.1 =
        ap₂ numbers_of met.data_type source in
        let by_path : pairs_of aim.data_type (type_where (expression_type scope e).has) ≡ pairs_of h.0.data_type h.1 =
        ap₂ pairs_of (sym met.stands.data_type ∙ met.data_type) source in
        let same : SameSides s f holds env given path gifts child scope sink e (type_leaves h.0.data_type) (type_leaves h.1) =
        record {
          left =
              subst (λ (u : DataType). NameSame s path holds env (type_leaves u) (Some target) aim.at) met.data_type
              (standing_named s path holds env f target aim met.stands);
          right = source_named e h.1 h.3;
          gives = λ k l y i. gives.expression scope e h.1 k l y begins h.3 i;
          gives_back = λ k l y i. gives.sink scope sink h.0 k l y begins h.2 i;
        } in
        rw (by_number, by_path)
        (pairs_kept s f holds env given path gifts child scope sink e (type_leaves h.0.data_type) (type_leaves h.1) same p taken
        (numbers_of h.0.data_type h.1) (pairs_of h.0.data_type h.1) store (alike h.0.data_type h.1 h.4))
