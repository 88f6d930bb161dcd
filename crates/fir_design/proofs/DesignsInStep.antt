-- The leaves and arrays of a design below a path go in step with those of the tree of its source modules.
use Rattle.std.proofs.Common.{◌≡◌, ℕ, ◌+◌, List, [], ◌∷◌, ◌++◌, map, length, sym, subst, arith}
use Rattle.std.proofs.lemmas.List.{length-map}
use Rattle.fir_base.specs.Lists.{In}
use Rattle.fir_base.proofs.Elements.{get_in}
use Rattle.fir_ast.specs.Circuits.{CircuitTree}
use Rattle.fir_meaning.specs.LeafPaths.{LeafPath, named}
use Rattle.fir_meaning.specs.working.NameGroups.{HasNames}
use Rattle.fir_meaning.specs.TypeGroup.{type_faults}
use Rattle.fir_meaning.specs.working.DesignPaths.{instance_path}
use Rattle.fir_meaning.specs.working.Designs.{AreItemsIn, Design, IsDesignOf, IsItemIn, Item, Items, block_of, done, drive, instance, made_of, statement_of, then, when}
use Rattle.fir_meaning.specs.working.FlatDesigns.{array_count, array_count_all, count, count_all, inner_leaves}
use Rattle.fir_meaning.specs.working.FlatLeaves.{all_arrays_in, all_leaves_in, arrays_below, arrays_in, leaves_below, leaves_in, placed_array}
use Rattle.fir_meaning.specs.working.LeafCircuits.{LeafCircuit}
use Rattle.fir_meaning.specs.ModuleScenes.{Scene}
use Rattle.fir_meaning.specs.working.LeafedModules.{leafed_module}
use Rattle.fir_meaning.specs.working.Numberings.{Numbering, number, numbering}
use Rattle.fir_leaf.specs.working.SoundDesigns.{AreWired, IsWired}
use Rattle.fir_leaf.proofs.FlatArrays.{array_count_is, array_counts_are}
use Rattle.fir_leaf.proofs.FlatPlaces.{At, at_left, at_right, count_is, counts_are, held_stands, inner_at}
use Rattle.fir_leaf.proofs.MovedTerms.{Stands}
use Rattle.fir_meaning.specs.Elaborated.{AreScenes}
use Rattle.fir_meaning.specs.working.Elaborated.{views}
use Rattle.fir_design.specs.working.SameRoles.{ViewsHaveRoles}
use Rattle.fir_meaning.specs.SourceCircuits.{arrays_of_design, leaves_of_design}
use Rattle.fir_meaning.specs.SourceDesigns.{Instances, IsSourceDesignOf, SourceDesign}
use Rattle.fir_meaning.specs.SourceDesigns as source
use Rattle.fir_design.proofs.HeldInstances.{all_held_in, held_in}
use Rattle.fir_design.proofs.InstanceTrees.{IsTreeOf, NamedTree, trees_in, trees_of_module}
use Rattle.fir_design.proofs.ListsInStep.{AreInStep, step_parts}
use Rattle.fir_design.proofs.NumberedScenes.{scene_own, view_at}
use Rattle.fir_design.proofs.TreesInStep.{BothInStep, TreesInStep, made_in_step, one_tree, trees_joined}

module _ (circuit : CircuitTree) (names : HasNames circuit) (types : type_faults circuit ≡ []) (scenes : List Scene)
    (are : AreScenes circuit scenes)
    (roles : ViewsHaveRoles) (c : LeafCircuit) where
  -- what is said of the design of a scene's module
  abbrev DesignInStep : Design → Scene → SourceDesign → Type 0
  DesignInStep (made_of m is) s t =
      (path : LeafPath) (k first free array : ℕ) → Stands c.leaves (numbering m first free) path k m → AreWired m 0 is
      → At c.leaves free (leaves_below path k first free array (made_of m is)) → At c.arrays array (arrays_below path first free (made_of m is))
      → BothInStep c (leaves_below path k first free array (made_of m is)) (leaves_of_design path t) (arrays_below path first free (made_of m is))
      (arrays_of_design path t)

  mutual
    item_in_step : (x : Item) (s : Scene) (path : LeafPath) (n : Numbering) (k0 k d free array : ℕ) (es : List NamedTree)
        → Stands c.leaves n path k0 (leafed_module s) → d ≡ k0 + k → IsItemIn (views scenes) x → IsWired (leafed_module s) k x
        → At c.leaves free (leaves_in path d (leafed_module s) n free array x) → At c.arrays array (arrays_in path (leafed_module s) n free x)
        → AreInStep (IsTreeOf scenes s) (held_in k (statement_of x)) es
        → TreesInStep c path (leaves_in path d (leafed_module s) n free array x) (arrays_in path (leafed_module s) n free x) es
    item_in_step (drive p b ps t) s path n k0 k d free array [] st e i w at there h = record { leaves = tt; arrays = tt }
    item_in_step (drive p b ps t) s path n k0 k d free array (x ∷ es) st e i w at there h = absurd h
    item_in_step (when p t a b) s path n k0 k d free array es st e i w at there h =
        let m = leafed_module s in
        let one = all_leaves_in path (d + 1) m n free array a in
        let two = all_leaves_in path (d + 1) m n (free + count_all a) (array + array_count_all a) b in
        let first = all_arrays_in path m n free a in
        let second = all_arrays_in path m n (free + count_all a) b in
        let parts = step_parts (IsTreeOf scenes s) (all_held_in (k + 1) (block_of a)) (all_held_in (k + 1) (block_of b)) es h in
        let deep : d + 1 ≡ k0 + (k + 1) = omega (arith, e) in
        trees_joined c path one two first second parts.0 parts.1 es parts.2
        (items_in_step a s path n k0 (k + 1) (d + 1) free array parts.0 st deep i.0 w.1 (at_left c.leaves one two free at)
        (at_left c.arrays first second array there) parts.3)
        (items_in_step b s path n k0 (k + 1) (d + 1) (free + count_all a) (array + array_count_all a) parts.1 st deep i.1 w.2
        (rw (counts_are path (d + 1) m n free array a) at (at_right c.leaves one two free at))
        (rw (array_counts_are path m n free a) at (at_right c.arrays first second array there)) parts.4)
    item_in_step (instance y d') s path n k0 k d free array [] st e i w at there h = absurd h
    item_in_step (instance y d') s path n k0 k d free array (x ∷ z ∷ es) st e i w at there h = absurd h.1
    item_in_step (instance y (made_of v is)) s path n k0 k d free array (x ∷ []) st e i w at there h =
        let m = leafed_module s in
        let t : IsTreeOf scenes s (record { depth = k; own = y }) x = h.0 in
        let below = instance_path path m y in
        let deep = λ (z : ℕ). At c.leaves free (leaves_below below z (number n y.first) free array (made_of v is)) in
        let found = subst (λ u. IsDesignOf (views scenes) u (made_of v is)) (view_at scenes y.module_number t.child t.at) i in
        let inside = design_in_step (made_of v is) t.child x.tree (get_in scenes y.module_number t.child t.at) found t.is in
        let stand : Stands c.leaves (numbering v (number n y.first) free) below d v =
        subst (λ z. Stands c.leaves (numbering v (number n y.first) free) below z v) (sym e)
        (held_stands c.leaves path k0 k free array n m v y _ st w.0 (subst deep e at)) in
        one_tree c path (leaves_below below d (number n y.first) free array (made_of v is))
        (arrays_below below (number n y.first) free (made_of v is)) x
        (subst (λ name. BothInStep c (leaves_below below d (number n y.first) free array (made_of v is))
        (leaves_of_design (path ++ named name ∷ []) x.tree) (arrays_below below (number n y.first) free (made_of v is))
        (arrays_of_design (path ++ named name ∷ []) x.tree)) t.name
        (inside below d (number n y.first) free array stand w.1 at there))

    items_in_step : (xs : Items) (s : Scene) (path : LeafPath) (n : Numbering) (k0 k d free array : ℕ) (es : List NamedTree)
        → Stands c.leaves n path k0 (leafed_module s) → d ≡ k0 + k → AreItemsIn (views scenes) xs → AreWired (leafed_module s) k xs
        → At c.leaves free (all_leaves_in path d (leafed_module s) n free array xs)
        → At c.arrays array (all_arrays_in path (leafed_module s) n free xs)
        → AreInStep (IsTreeOf scenes s) (all_held_in k (block_of xs)) es
        → TreesInStep c path (all_leaves_in path d (leafed_module s) n free array xs) (all_arrays_in path (leafed_module s) n free xs) es
    items_in_step done s path n k0 k d free array [] st e i w at there h = record { leaves = tt; arrays = tt }
    items_in_step done s path n k0 k d free array (x ∷ es) st e i w at there h = absurd h
    items_in_step ((then) x xs) s path n k0 k d free array es st e i w at there h =
        let m = leafed_module s in
        let one = leaves_in path d m n free array x in
        let two = all_leaves_in path d m n (free + count x) (array + array_count x) xs in
        let first = arrays_in path m n free x in
        let second = all_arrays_in path m n (free + count x) xs in
        let parts = step_parts (IsTreeOf scenes s) (held_in k (statement_of x)) (all_held_in k (block_of xs)) es h in
        trees_joined c path one two first second parts.0 parts.1 es parts.2
        (item_in_step x s path n k0 k d free array parts.0 st e i.0 w.0 (at_left c.leaves one two free at)
        (at_left c.arrays first second array there) parts.3)
        (items_in_step xs s path n k0 k d (free + count x) (array + array_count x) parts.1 st e i.1 w.1
        (rw (count_is path d m n free array x) at (at_right c.leaves one two free at))
        (rw (array_count_is path m n free x) at (at_right c.arrays first second array there)) parts.4)

    pub design_in_step : (d : Design) (s : Scene) (t : SourceDesign) → In scenes s → IsDesignOf (views scenes) (leafed_module s) d
        → IsSourceDesignOf scenes s t → DesignInStep d s t
    design_in_step (made_of v is) s (source.made_of u trees) i e h =
        subst (λ m. DesignInStep (made_of m is) s (source.made_of u trees)) (sym e.0)
        (subst (λ z. DesignInStep (made_of (leafed_module s) is) s (source.made_of z trees)) (sym h.0)
        (λ path k first free array st w at there.
        let m = leafed_module s in
        let n = numbering m first free in
        let beside = trees_of_module scenes s circuit names (scene_own circuit scenes are s i) trees h.1 in
        let own = map (placed_array path n) m.arrays in
        let more = all_arrays_in path m n (free + length (inner_leaves m)) is in
        let arrays : At c.arrays (array + length m.arrays) more =
        rw (length-map m.arrays (placed_array path n)) at (at_right c.arrays own more array there) in
        made_in_step circuit names types scenes are roles c s i trees path k first free array is st there
        (items_in_step is s path n k 0 k (free + length (inner_leaves m)) (array + length m.arrays) (trees_in trees) st (omega arith) e.2 w
        (inner_at c.leaves path k first free array m is at) arrays
        (subst (λ b. AreInStep (IsTreeOf scenes s) (all_held_in 0 b) (trees_in trees)) (sym e.1) beside))))
