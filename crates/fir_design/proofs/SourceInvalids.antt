-- What an invalid stores by numbers it stores by paths.
use Rattle.std.proofs.Common.{◌≡◌, ℕ, suc, ◌+◌, ◌<◌, List, [], ◌∷◌, Bool, true, false, if◌then◌else◌, length, slice_get, Option, Some, None, option_map, refl, sym, ap, ◌∙◌, subst, arith}
use Rattle.std.proofs.lemmas.Option.{slice_get_within}
use Rattle.fir_ast.specs.declared.place.Place.{Place}
use Rattle.fir_meaning.specs.LeafPaths.{LeafPath}
use Rattle.fir_meaning.specs.TypeLeaves.{TypeLeaf, type_leaves}
use Rattle.fir_meaning.specs.PathStores.{DesignStore}
use Rattle.fir_meaning.specs.working.LeafBlocks.{LeafBlock}
use Rattle.fir_meaning.specs.working.LeafBlocks as over
use Rattle.fir_leaf.specs.working.LeafLaws.{path_at}
use Rattle.fir_meaning.specs.working.LeafModules.{LeafModule}
use Rattle.fir_meaning.specs.working.LeafedBlocks.{driven_from, invalid_block, invalid_leaf, invalid_leaves}
use Rattle.fir_meaning.specs.ModuleScenes.{Scene}
use Rattle.fir_meaning.specs.working.LeafedModules.{driven_leaves, leafed_module}
use Rattle.fir_leaf.specs.working.Standing.{Stands}
use Rattle.fir_meaning.specs.working.Targets.{Target}
use Rattle.fir_meaning.specs.working.Terms.{Term, zeros}
use Rattle.fir_meaning.specs.TreeAims.{Aim}
use Rattle.fir_meaning.specs.SamePaths.{may_be_driven}
use Rattle.fir_meaning.specs.TreeValues.{TypesByPath, ValuesByPath, leaf_where}
use Rattle.fir_leaf.proofs.LeafPlaces.{leaves_counted}
use Rattle.fir_meaning.specs.SourceFacts.{source_may_drive}
use Rattle.fir_meaning.specs.SourceStores.{Gifts, below, source_invalid, source_invalidated, source_kept}
use Rattle.fir_design.proofs.FineScenes.{IsFineScene, leaves_long, whole_scope}
use Rattle.fir_design.proofs.KeptLeaves.{driven_kept, standing_named}
use Rattle.fir_design.proofs.RunBlocks.{run, run_joined}
use Rattle.fir_design.proofs.SourceLeaves.{source_may_drive_is}

module _ {V : Type 0} (s : Scene) (f : IsFineScene s) (holds : TypesByPath) (env : ValuesByPath)
    (given : LeafPath → LeafModule → ℕ → Term → V)
    (path : LeafPath) (gifts : Gifts V) (child : List ℕ → DesignStore V → DesignStore V)
    (gives : (y : ℕ) → given path (leafed_module s) y zeros ≡ gifts.of_invalid (path_at (whole_scope s) y)) (p : Place) (r : Target) (a : Aim)
    (stands : Stands (whole_scope s) (below path holds) (below path env) r a) (taken : List Bool) where
  -- the leaf's number and its path may both be driven, or neither
  same_may : (k : ℕ) (l : TypeLeaf) → slice_get (type_leaves r.data_type) k ≡ Some l → (b : ℕ) → r.base ≡ Some b
      → source_may_drive s (path_at (whole_scope s) (b + k)) ≡ driven_leaves s (b + k)
  same_may k l h b e =
      let low = subst (λ n. k < n) (leaves_counted r.data_type) (slice_get_within (type_leaves r.data_type) k l h) in
      source_may_drive_is s f (b + k) (subst (λ n. b + k < n) (sym (leaves_long s f)) (stands.first_within k b low e))

  leaf_kept : (k : ℕ) (l : TypeLeaf) (store : DesignStore V) → slice_get (type_leaves r.data_type) k ≡ Some l
      → run holds env given path (leafed_module s) child (invalid_leaf (driven_leaves s) p r.base r k) taken store
      ≡ source_invalidated s (below path holds) (below path env) gifts path child a l.path taken store
  leaf_kept k l store h =
      by r.base (leaf_where a.first l.path) (stands.first k l h) (same_may k l h)
      (driven_kept s f holds env given path gifts child p (type_leaves r.data_type) (Some r) a.at k l zeros gifts.of_invalid taken store
      (standing_named s path holds env f r a stands) h gives)
    where
      by : (base : Option ℕ) (first : Option LeafPath) → first ≡ option_map (λ b. path_at (whole_scope s) (b + k)) base
          → ((b : ℕ) → base ≡ Some b → source_may_drive s (path_at (whole_scope s) (b + k)) ≡ driven_leaves s (b + k))
          → run holds env given path (leafed_module s) child (driven_from p base r k zeros) taken store
          ≡ source_kept s (below path holds) (below path env) gifts path child (leaf_where a.at l.path) gifts.of_invalid taken store
          → run holds env given path (leafed_module s) child (invalid_leaf (driven_leaves s) p base r k) taken store
          ≡ (if may_be_driven (source_may_drive s) first
          then source_kept s (below path holds) (below path env) gifts path child (leaf_where a.at l.path) gifts.of_invalid taken store else store)
      by None first e may driven = rw e refl
      by (Some b) first e may driven = rw (e, may b refl) (chosen (driven_leaves s (b + k)))
        where
          chosen : (c : Bool)
              → run holds env given path (leafed_module s) child (if c then driven_from p (Some b) r k zeros else over.done) taken store
              ≡ (if c then source_kept s (below path holds) (below path env) gifts path child (leaf_where a.at l.path) gifts.of_invalid taken store
              else store)
          chosen true = driven
          chosen false = refl

  leaves_kept : (ls : List TypeLeaf) (k : ℕ) (store : DesignStore V)
      → ((i : ℕ) (l : TypeLeaf) → slice_get ls i ≡ Some l → slice_get (type_leaves r.data_type) (k + i) ≡ Some l)
      → run holds env given path (leafed_module s) child (invalid_leaves (driven_leaves s) p r k (length ls)) taken store
      ≡ source_invalid s (below path holds) (below path env) gifts path child a taken ls store
  leaves_kept [] k store stand = refl
  leaves_kept (l ∷ ls) k store stand =
      let first : k + 0 ≡ k = omega arith in
      run_joined holds env given path (leafed_module s) child (invalid_leaf (driven_leaves s) p r.base r k)
      (invalid_leaves (driven_leaves s) p r (suc k) (length ls)) taken store
      ∙ ap (run holds env given path (leafed_module s) child (invalid_leaves (driven_leaves s) p r (suc k) (length ls)) taken)
      (leaf_kept k l store (rw first at (stand 0 l refl)))
      ∙ leaves_kept ls (suc k) (source_invalidated s (below path holds) (below path env) gifts path child a l.path taken store)
      (λ i x h. let next : suc k + i ≡ k + suc i = omega arith in rw next (stand (suc i) x h))

  pub invalid_kept : (store : DesignStore V)
      → run holds env given path (leafed_module s) child (invalid_block (driven_leaves s) p r) taken store
      ≡ source_invalid s (below path holds) (below path env) gifts path child a taken (type_leaves a.data_type) store
  invalid_kept store =
      let types : type_leaves a.data_type ≡ type_leaves r.data_type = ap type_leaves (sym stands.data_type) in
      rw (types, ← leaves_counted r.data_type)
      (leaves_kept (type_leaves r.data_type) 0 store (λ i l h. let none : 0 + i ≡ i = omega arith in rw none h))
