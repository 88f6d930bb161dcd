-- A design of a module's view stores what the tree of its statements stores, where terms give what is given by paths.
use Rattle.std.proofs.Common.{◌≡◌, ℕ, ◌+◌, List, [], ◌∷◌, ◌++◌, Bool, not, refl, sym, ap, ◌∙◌, subst, inl}
use Rattle.std.proofs.lemmas.List.{append-nil}
use Rattle.fir_base.specs.Lists.{In}
use Rattle.fir_base.proofs.Elements.{get_in}
use Rattle.fir_base.proofs.Members.{in_left, in_right}
use Rattle.fir_ast.specs.Circuits.{CircuitTree}
use Rattle.fir_meaning.specs.LeafPaths.{LeafPath}
use Rattle.fir_meaning.specs.working.NameGroups.{HasNames}
use Rattle.fir_meaning.specs.TypeGroup.{type_faults}
use Rattle.fir_meaning.specs.Visibility.{declarations}
use Rattle.fir_meaning.specs.working.DesignPaths.{instance_name, instance_path, seen}
use Rattle.fir_meaning.specs.PathStores.{DesignStore}
use Rattle.fir_meaning.specs.working.DesignStores.{exec_below, exec_item, exec_items}
use Rattle.fir_meaning.specs.working.Designs.{AreItemsIn, Design, IsDesignOf, IsItemIn, Item, Items, block_of, done, drive, instance, made_of, statement_of, then, when}
use Rattle.fir_meaning.specs.working.LeafModules.{LeafModule}
use Rattle.fir_meaning.specs.ModuleScenes.{Scene, behind_all_ports}
use Rattle.fir_meaning.specs.working.LeafedModules.{leafed_module}
use Rattle.fir_meaning.specs.working.Terms.{Term}
use Rattle.fir_meaning.specs.working.TermValues.{is_true}
use Rattle.fir_meaning.specs.TreeValues.{TypesByPath, ValuesByPath}
use Rattle.fir_leaf.proofs.ScopesBegin.{begins_all}
use Rattle.fir_meaning.specs.Elaborated.{AreScenes}
use Rattle.fir_meaning.specs.working.Elaborated.{views}
use Rattle.fir_meaning.specs.SourceDesigns.{Instances, IsSourceDesignOf, SourceDesign}
use Rattle.fir_meaning.specs.SourceDesigns as source
use Rattle.fir_meaning.specs.SourceStores.{Gifts, exec_design, exec_instances}
use Rattle.fir_design.proofs.FineScenes.{IsFineScene, fine_scene, whole_scope}
use Rattle.fir_design.proofs.FoundInstances.{instances_found}
use Rattle.fir_design.proofs.HeldInstances.{Held, all_held_in, held_in}
use Rattle.fir_design.proofs.NumberedScenes.{scene_numbered, scene_own, view_at}
use Rattle.fir_design.proofs.RunBlocks.{run, run_one}
use Rattle.fir_design.proofs.SourceBlocks.{block_kept}
use Rattle.fir_design.proofs.SourceConnects.{Gives}
use Rattle.fir_design.proofs.TreesByName.{HasTree, has_trees, named_runs}

module _ {V : Type 0} (c : CircuitTree) (names : HasNames c) (types : type_faults c ≡ []) (scenes : List Scene) (are : AreScenes c scenes)
    (holds : TypesByPath) (env : ValuesByPath) (given : LeafPath → LeafModule → ℕ → Term → V) (gifts : LeafPath → Gifts V)
    (gives : (s : Scene) → IsFineScene s → (path : LeafPath) → Gives s given path (gifts path)) where
  -- what a module's statements over leaves store, with its trees in the places of instances
  view_kept : (s : Scene) → In scenes s → (path : LeafPath) (trees : Instances) (store : DesignStore V)
      → run holds env given path (leafed_module s) (exec_instances holds env gifts path trees) (leafed_module s).body [] store
      ≡ exec_design holds env gifts path (source.made_of s trees) store
  view_kept s i path trees store =
      let f = fine_scene c s names types (scene_numbered c scenes are s i) in
      block_kept s f holds env given path (gifts path) (gives s f path) (exec_instances holds env gifts path trees) s.own.inside.body
      (behind_all_ports s.own.inside) [] store (begins_all (whole_scope s)) ([], append-nil (declarations s.own.inside))
      (instances_found c s names (scene_own c scenes are s i)) f.legal

  tree_kept : (s : Scene) → In scenes s → (path : LeafPath) (t : Scene) (trees : Instances) (store : DesignStore V)
      → IsSourceDesignOf scenes s (source.made_of t trees)
      → run holds env given path (leafed_module s) (exec_instances holds env gifts path trees) (leafed_module s).body [] store
      ≡ exec_design holds env gifts path (source.made_of t trees) store
  tree_kept s i path t trees store e =
      view_kept s i path trees store ∙ ap (λ x. exec_design holds env gifts path (source.made_of x trees) store) (sym e.0)

  mutual
    item_run : (x : Item) (s : Scene) (path : LeafPath) (trees : Instances) (k : ℕ) (taken : List Bool) (store : DesignStore V)
        → IsItemIn (views scenes) x → ((h : Held) → In (held_in k (statement_of x)) h → HasTree scenes s trees h)
        → exec_item holds env given path (leafed_module s) x taken store
        ≡ run_one holds env given path (leafed_module s) (exec_instances holds env gifts path trees) (statement_of x) taken store
    item_run (drive p b ps t) s path trees k taken store e h = refl
    item_run (when p t a b) s path trees k taken store e h =
        let m = leafed_module s in
        let high = is_true (seen path m holds) (seen path m env) t in
        let one = all_held_in (k + 1) (block_of a) in
        let other = all_held_in (k + 1) (block_of b) in
        ap (exec_items holds env given path m b (taken ++ not high ∷ []))
        (items_run a s path trees (k + 1) (taken ++ high ∷ []) store e.0 (λ x j. h x (in_left one other x j)))
        ∙ items_run b s path trees (k + 1) (taken ++ not high ∷ [])
        (run holds env given path m (exec_instances holds env gifts path trees) (block_of a) (taken ++ high ∷ []) store) e.1
        (λ x j. h x (in_right one other x j))
    item_run (instance i d) s path trees k taken store e h =
        let t = h (record { depth = k; own = i }) (inl refl) in
        design_run d t.child t.tree (instance_path path (leafed_module s) i) store (get_in scenes i.module_number t.child t.at)
        (subst (λ v. IsDesignOf (views scenes) v d) (view_at scenes i.module_number t.child t.at) e) t.is
        ∙ sym (named_runs holds env gifts path trees (instance_name (leafed_module s) i) t.tree store t.found)

    items_run : (is : Items) (s : Scene) (path : LeafPath) (trees : Instances) (k : ℕ) (taken : List Bool) (store : DesignStore V)
        → AreItemsIn (views scenes) is → ((h : Held) → In (all_held_in k (block_of is)) h → HasTree scenes s trees h)
        → exec_items holds env given path (leafed_module s) is taken store
        ≡ run holds env given path (leafed_module s) (exec_instances holds env gifts path trees) (block_of is) taken store
    items_run done s path trees k taken store e h = refl
    items_run ((then) x is) s path trees k taken store e h =
        let m = leafed_module s in
        ap (exec_items holds env given path m is taken)
        (item_run x s path trees k taken store e.0 (λ y j. h y (in_left (held_in k (statement_of x)) (all_held_in k (block_of is)) y j)))
        ∙ items_run is s path trees k taken
        (run_one holds env given path m (exec_instances holds env gifts path trees) (statement_of x) taken store) e.1
        (λ y j. h y (in_right (held_in k (statement_of x)) (all_held_in k (block_of is)) y j))

    pub design_run : (d : Design) (s : Scene) (tree : SourceDesign) (path : LeafPath) (store : DesignStore V) → In scenes s
        → IsDesignOf (views scenes) (leafed_module s) d → IsSourceDesignOf scenes s tree
        → exec_below holds env given path d store ≡ exec_design holds env gifts path tree store
    design_run (made_of m is) s (source.made_of t trees) path store i e h =
        let f = fine_scene c s names types (scene_numbered c scenes are s i) in
        let has = has_trees scenes s c names (scene_own c scenes are s i) f trees h.1 in
        ap (λ v. exec_items holds env given path v is [] store) e.0
        ∙ items_run is s path trees 0 [] store e.2 (λ y j. has y (subst (λ b. In (all_held_in 0 b) y) e.1 j))
        ∙ ap (λ b. run holds env given path (leafed_module s) (exec_instances holds env gifts path trees) b [] store) e.1
        ∙ tree_kept s i path t trees store h
