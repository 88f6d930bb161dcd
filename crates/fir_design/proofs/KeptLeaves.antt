-- A leaf that is driven takes at its path what it takes by its number.
use Rattle.std.proofs.Common.{◌≡◌, ℕ, ◌<◌, List, Bool, length, slice_get, Option, Some, None, option_map, refl, sym, ap, ap₂, ◌∙◌, subst}
use Rattle.std.proofs.lemmas.Option.{slice_get_within}
use Rattle.fir_ast.specs.declared.place.Place.{Place}
use Rattle.fir_meaning.specs.LeafPaths.{LeafPath}
use Rattle.fir_meaning.specs.TypeLeaves.{TypeLeaf, type_leaves}
use Rattle.fir_meaning.specs.working.DesignPaths.{seen}
use Rattle.fir_meaning.specs.PathStores.{DesignStore}
use Rattle.fir_meaning.specs.working.DesignStores.{kept}
use Rattle.fir_leaf.specs.working.LeafLaws.{path_at}
use Rattle.fir_meaning.specs.working.LeafModules.{LeafModule}
use Rattle.fir_meaning.specs.working.LeafedBlocks.{driven_from, driven_where}
use Rattle.fir_meaning.specs.ModuleScenes.{Scene}
use Rattle.fir_meaning.specs.working.LeafedModules.{leafed_module, module_leaves}
use Rattle.fir_leaf.specs.working.Standing.{leaf_from, Stands, target_leaf}
use Rattle.fir_meaning.specs.working.Targets.{Target}
use Rattle.fir_meaning.specs.working.Terms.{Term}
use Rattle.fir_meaning.specs.TreeAims.{Aim}
use Rattle.fir_meaning.specs.TreeValues.{TypesByPath, ValuesByPath, leaf_where}
use Rattle.fir_leaf.proofs.LeafPlaces.{leaves_counted}
use Rattle.fir_leaf.proofs.PairStores.{leaf_in}
use Rattle.fir_meaning.specs.SourceStores.{Gifts, below, source_kept}
use Rattle.fir_design.proofs.FineScenes.{IsFineScene, leaves_long, whole_scope}
use Rattle.fir_design.proofs.RunBlocks.{run}
use Rattle.fir_design.proofs.SeenPaths.{path_is, seen_is}
use Rattle.fir_design.proofs.SourceLeaves.{source_depth_is}

module _ (s : Scene) (path : LeafPath) (holds : TypesByPath) (env : ValuesByPath) where
  -- both name the same of leaves of a type
  pub record NameSame (ls : List TypeLeaf) (r : Option Target) (q : Option LeafPath) : Type 0 where
    pub at : (k : ℕ) (l : TypeLeaf) → slice_get ls k ≡ Some l
        → leaf_where q l.path
        ≡ option_map (path_at (whole_scope s)) (leaf_in (seen path (leafed_module s) holds) (seen path (leafed_module s) env) r k)
    pub within : (k y : ℕ) → k < length ls → leaf_in (seen path (leafed_module s) holds) (seen path (leafed_module s) env) r k ≡ Some y
        → y < length (module_leaves s)

  pub nothing_named : (ls : List TypeLeaf) → NameSame ls None None
  nothing_named ls = record { at = λ k l h. refl; within = λ k y lt h. cc }

  pub standing_named : (f : IsFineScene s) (r : Target) (a : Aim) → Stands (whole_scope s) (below path holds) (below path env) r a
      → NameSame (type_leaves r.data_type) (Some r) a.at
  standing_named f r a st =
      let same = λ (k : ℕ). ap₂ (λ h n. target_leaf h n r k) (seen_is s f path holds) (seen_is s f path env) in
      record {
        at = λ k l h. st.at k l h ∙ ap (option_map (path_at (whole_scope s))) (sym (same k));
        within = λ k y lt h.
            subst (λ n. y < n) (sym (leaves_long s f))
            (st.within k y (subst (λ n. k < n) (leaves_counted r.data_type) lt) (sym (same k) ∙ h));
      }

module _ {V : Type 0} (s : Scene) (f : IsFineScene s) (holds : TypesByPath) (env : ValuesByPath)
    (given : LeafPath → LeafModule → ℕ → Term → V)
    (path : LeafPath) (gifts : Gifts V) (child : List ℕ → DesignStore V → DesignStore V) where
  leaf_kept : (o : Option ℕ) (q : Option LeafPath) (t : Term) (give : LeafPath → V) (taken : List Bool) (store : DesignStore V)
      → ((y : ℕ) → o ≡ Some y → y < length (module_leaves s)) → q ≡ option_map (path_at (whole_scope s)) o
      → ((y : ℕ) → given path (leafed_module s) y t ≡ give (path_at (whole_scope s) y))
      → kept holds env given path (leafed_module s) o t taken store
      ≡ source_kept s (below path holds) (below path env) gifts path child q give taken store
  leaf_kept None q t give taken store within e h = rw e refl
  leaf_kept (Some y) q t give taken store within e h = rw (e, path_is s f path y, h y, source_depth_is s f y (within y refl)) refl

  driven_run : (p : Place) (o : Option ℕ) (r : Target) (k : ℕ) (t : Term) (taken : List Bool) (store : DesignStore V)
      → run holds env given path (leafed_module s) child (driven_from p o r k t) taken store
      ≡ kept holds env given path (leafed_module s)
      (leaf_from (seen path (leafed_module s) holds) (seen path (leafed_module s) env) o r.picks k) t taken store
  driven_run p None r k t taken store = refl
  driven_run p (Some b) r k t taken store = refl

  where_run : (p : Place) (r : Option Target) (k : ℕ) (t : Term) (taken : List Bool) (store : DesignStore V)
      → run holds env given path (leafed_module s) child (driven_where p r k t) taken store
      ≡ kept holds env given path (leafed_module s)
      (leaf_in (seen path (leafed_module s) holds) (seen path (leafed_module s) env) r k) t taken store
  where_run p None k t taken store = refl
  where_run p (Some r) k t taken store = driven_run p r.base r k t taken store

  pub driven_kept : (p : Place) (ls : List TypeLeaf) (r : Option Target) (q : Option LeafPath) (k : ℕ) (l : TypeLeaf) (t : Term)
      (give : LeafPath → V) (taken : List Bool) (store : DesignStore V)
      → NameSame s path holds env ls r q → slice_get ls k ≡ Some l
      → ((y : ℕ) → given path (leafed_module s) y t ≡ give (path_at (whole_scope s) y))
      → run holds env given path (leafed_module s) child (driven_where p r k t) taken store
      ≡ source_kept s (below path holds) (below path env) gifts path child (leaf_where q l.path) give taken store
  driven_kept p ls r q k l t give taken store named h gives =
      where_run p r k t taken store
      ∙ leaf_kept (leaf_in (seen path (leafed_module s) holds) (seen path (leafed_module s) env) r k) (leaf_where q l.path) t give taken store
      (λ y. named.within k y (slice_get_within ls k l h)) (named.at k l h) gives
