-- The paths of the copies of a design are those of the modules of its tree.
use Rattle.std.proofs.Common.{◌≡◌, ℕ, ◌+◌, List, [], ◌∷◌, ◌++◌, map, refl, sym, ap, ap₂, ◌∙◌, subst, append-nil}
use Rattle.std.proofs.lemmas.List.{map-append}
use Rattle.fir_base.specs.Lists.{In}
use Rattle.fir_base.proofs.Elements.{get_in}
use Rattle.fir_ast.specs.Circuits.{CircuitTree}
use Rattle.fir_meaning.specs.Elaborated.{AreScenes}
use Rattle.fir_meaning.specs.LeafPaths.{LeafPath, named}
use Rattle.fir_meaning.specs.ModuleScenes.{Scene}
use Rattle.fir_meaning.specs.SourceDependence.{PlacedModule, modules_of_design}
use Rattle.fir_meaning.specs.SourceDesigns.{IsSourceDesignOf, SourceDesign}
use Rattle.fir_meaning.specs.SourceDesigns as source
use Rattle.fir_meaning.specs.working.DesignPaths.{instance_path}
use Rattle.fir_meaning.specs.working.Designs.{AreItemsIn, Design, IsDesignOf, IsItemIn, Item, Items, block_of, done, drive, instance, made_of, statement_of, then, when}
use Rattle.fir_meaning.specs.working.Elaborated.{views}
use Rattle.fir_meaning.specs.working.LeafedModules.{leafed_module}
use Rattle.fir_meaning.specs.working.NameGroups.{HasNames}
use Rattle.fir_design.proofs.HeldInstances.{all_held_in, held_in}
use Rattle.fir_design.proofs.InstanceTrees.{IsTreeOf, NamedTree, trees_in, trees_of_module}
use Rattle.fir_design.proofs.ListsInStep.{AreInStep, step_parts}
use Rattle.fir_design.proofs.NumberedScenes.{scene_own, view_at}
use Rattle.fir_design_faults.proofs.FlatDrives.{modules_by_trees, modules_of_trees}
use Rattle.fir_copies.proofs.CopyWalks.{trees_joined}
use Rattle.fir_elaborate.specs.working.CopyPaths.{all_paths_in, paths_below, paths_in}

abbrev paths_of : List PlacedModule → List LeafPath
paths_of hs = map (λ (h : PlacedModule). h.at) hs

both_paths : (path : LeafPath) (es fs : List NamedTree)
    → paths_of (modules_of_trees path (es ++ fs)) ≡ paths_of (modules_of_trees path es) ++ paths_of (modules_of_trees path fs)
both_paths path es fs =
    ap paths_of (trees_joined path es fs) ∙ map-append (λ (h : PlacedModule). h.at) (modules_of_trees path es) (modules_of_trees path fs)

module _ (circuit : CircuitTree) (names : HasNames circuit) (scenes : List Scene) (are : AreScenes circuit scenes) where
  mutual
    item_paths : (x : Item) (s : Scene) (path : LeafPath) (k : ℕ) (es : List NamedTree) → IsItemIn (views scenes) x
        → AreInStep (IsTreeOf scenes s) (held_in k (statement_of x)) es
        → paths_in path (leafed_module s) x ≡ map (λ (h : PlacedModule). h.at) (modules_of_trees path es)
    item_paths (drive p b ps t) s path k [] i h = refl
    item_paths (drive p b ps t) s path k (x ∷ es) i h = absurd h
    item_paths (when p t a b) s path k es i h =
        let parts = step_parts (IsTreeOf scenes s) (all_held_in (k + 1) (block_of a)) (all_held_in (k + 1) (block_of b)) es h in
        ap₂ (λ (ps qs : List LeafPath). ps ++ qs) (items_paths a s path (k + 1) parts.0 i.0 parts.3) (items_paths b s path (k + 1) parts.1 i.1 parts.4)
        ∙ sym (both_paths path parts.0 parts.1) ∙ ap (λ es. paths_of (modules_of_trees path es)) (sym parts.2)
    item_paths (instance y d') s path k [] i h = absurd h
    item_paths (instance y d') s path k (x ∷ z ∷ es) i h = absurd h.1
    item_paths (instance y (made_of v is)) s path k (x ∷ []) i h =
        let t = h.0 in
        let found = subst (λ u. IsDesignOf (views scenes) u (made_of v is)) (view_at scenes y.module_number t.child t.at) i in
        design_paths (made_of v is) t.child x.tree (get_in scenes y.module_number t.child t.at) found t.is (instance_path path (leafed_module s) y)
        ∙ ap (λ n. paths_of (modules_of_design (path ++ named n ∷ []) x.tree)) t.name
        ∙ ap paths_of (sym (append-nil (modules_of_design (path ++ named x.name ∷ []) x.tree)))

    items_paths : (xs : Items) (s : Scene) (path : LeafPath) (k : ℕ) (es : List NamedTree) → AreItemsIn (views scenes) xs
        → AreInStep (IsTreeOf scenes s) (all_held_in k (block_of xs)) es
        → all_paths_in path (leafed_module s) xs ≡ map (λ (h : PlacedModule). h.at) (modules_of_trees path es)
    items_paths done s path k [] i h = refl
    items_paths done s path k (x ∷ es) i h = absurd h
    items_paths ((then) x xs) s path k es i h =
        let parts = step_parts (IsTreeOf scenes s) (held_in k (statement_of x)) (all_held_in k (block_of xs)) es h in
        ap₂ (λ (ps qs : List LeafPath). ps ++ qs) (item_paths x s path k parts.0 i.0 parts.3) (items_paths xs s path k parts.1 i.1 parts.4)
        ∙ sym (both_paths path parts.0 parts.1) ∙ ap (λ es. paths_of (modules_of_trees path es)) (sym parts.2)

    pub design_paths : (d : Design) (s : Scene) (t : SourceDesign) → In scenes s → IsDesignOf (views scenes) (leafed_module s) d
        → IsSourceDesignOf scenes s t → (path : LeafPath) → paths_below path d ≡ map (λ (h : PlacedModule). h.at) (modules_of_design path t)
    design_paths (made_of v is) s (source.made_of u trees) among e h path =
        let beside = trees_of_module scenes s circuit names (scene_own circuit scenes are s among) trees h.1 in
        let own : AreInStep (IsTreeOf scenes s) (all_held_in 0 (block_of is)) (trees_in trees) =
        subst (λ b. AreInStep (IsTreeOf scenes s) (all_held_in 0 b) (trees_in trees)) (sym e.1) beside in
        ap (λ ps. path ∷ ps)
        (ap (λ m. all_paths_in path m is) e.0 ∙ items_paths is s path 0 (trees_in trees) e.2 own ∙ ap paths_of (modules_by_trees path trees))
