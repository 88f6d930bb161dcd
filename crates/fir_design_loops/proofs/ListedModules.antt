-- Each module of a design has its leaves in the table of the whole: at the numbers that its numbering gives, moved and behind its path.
use Rattle.std.proofs.Common.{◌≡◌, ℕ, ◌+◌, ◌<◌, ◌≤◌, List, [], ◌∷◌, ◌++◌, length, sym, ap, ◌∙◌, subst, ⊎_elim, arith}
use Rattle.fir_base.specs.Lists.{In}
use Rattle.fir_base.proofs.Elements.{get_in}
use Rattle.fir_base.proofs.Members.{in_either, in_flat_map_from}
use Rattle.fir_ast.specs.Circuits.{CircuitTree}
use Rattle.fir_meaning.specs.Elaborated.{AreScenes}
use Rattle.fir_meaning.specs.LeafPaths.{LeafPath, named}
use Rattle.fir_meaning.specs.ModuleScenes.{Scene}
use Rattle.fir_meaning.specs.SourceDependence.{PlacedModule, modules_of_design, modules_of_instances}
use Rattle.fir_meaning.specs.SourceDesigns.{IsSourceDesignOf, SourceDesign}
use Rattle.fir_meaning.specs.SourceDesigns as source
use Rattle.fir_meaning.specs.working.DesignPaths.{instance_path}
use Rattle.fir_meaning.specs.working.Designs.{AreItemsIn, Design, IsDesignOf, IsItemIn, Item, Items, block_of, done, drive, instance, made_of, statement_of, then, when}
use Rattle.fir_meaning.specs.working.Elaborated.{views}
use Rattle.fir_meaning.specs.working.FlatDesigns.{array_count, array_count_all, count, count_all, inner_leaves}
use Rattle.fir_meaning.specs.working.FlatLeaves.{all_leaves_in, leaves_below, leaves_in, placed_leaf}
use Rattle.fir_meaning.specs.working.LeafModules.{LeafDeclared, leaf_at}
use Rattle.fir_meaning.specs.working.LeafedModules.{leafed_module, module_leaves}
use Rattle.fir_meaning.specs.working.NameGroups.{HasNames}
use Rattle.fir_meaning.specs.working.Numberings.{Numbering, number, numbering}
use Rattle.fir_leaf.specs.working.SoundDesigns.{AreWired, IsWired}
use Rattle.fir_leaf.proofs.FlatPlaces.{At, at_left, at_right, count_is, counts_are, held_stands, inner_at, placed_at}
use Rattle.fir_leaf.proofs.MovedTerms.{Stands, number_own}
use Rattle.fir_design.proofs.HeldInstances.{all_held_in, held_in}
use Rattle.fir_design.proofs.InstanceTrees.{IsTreeOf, NamedTree, trees_in, trees_of_module}
use Rattle.fir_design.proofs.ListsInStep.{AreInStep, step_parts}
use Rattle.fir_design.proofs.NumberedScenes.{scene_own, view_at}
use Rattle.fir_design_faults.proofs.FlatDrives.{modules_by_trees}

-- where the leaves of a module stand, and what its own are there
pub record IsListed (table : List LeafDeclared) (h : PlacedModule) : Type 0 where
  pub numbers : Numbering
  pub whens : ℕ
  pub array : ℕ
  pub stands : Stands table numbers h.at whens (leafed_module h.scene)
  pub own :
      (z : ℕ) → (leafed_module h.scene).port_leaves ≤ z → z < length (module_leaves h.scene)
      → leaf_at table (number numbers z) ≡ placed_leaf h.at whens numbers array (leaf_at (module_leaves h.scene) z)

-- those of the modules below instances
abbrev AllListed : List LeafDeclared → LeafPath → List NamedTree → Type 0
AllListed table path es =
    (e : NamedTree) → In es e → (h : PlacedModule) → In (modules_of_design (path ++ named e.name ∷ []) e.tree) h → IsListed table h

both_listed : (table : List LeafDeclared) (path : LeafPath) (us vs es : List NamedTree) → es ≡ us ++ vs → AllListed table path us → AllListed table path vs
    → AllListed table path es
both_listed table path us vs es is a b e i h =
    ⊎_elim (λ (l : In us e). a e l h) (λ (r : In vs e). b e r h) (in_either us vs e (subst (λ xs. In xs e) is i))

module _ (circuit : CircuitTree) (names : HasNames circuit) (scenes : List Scene) (are : AreScenes circuit scenes) (table : List LeafDeclared) where
  abbrev pub BelowListed : Design → SourceDesign → Type 0
  BelowListed (made_of m is) t =
      (path : LeafPath) (k first free array : ℕ) → Stands table (numbering m first free) path k m → AreWired m 0 is
      → At table free (leaves_below path k first free array (made_of m is)) → (h : PlacedModule) → In (modules_of_design path t) h → IsListed table h

  own_listed : (s : Scene) (path : LeafPath) (k first free array : ℕ) (is : Items)
      → Stands table (numbering (leafed_module s) first free) path k (leafed_module s)
      → At table free (leaves_below path k first free array (made_of (leafed_module s) is)) → IsListed table (record { at = path; scene = s })
  own_listed s path k first free array is st at =
      let m = leafed_module s in
      let n = numbering m first free in
      record {
        numbers = n;
        whens = k;
        array = array;
        stands = st;
        own = λ z le lt.
            ap (leaf_at table) (number_own n z le)
            ∙ (placed_at table path k first free array m (all_leaves_in path k m n (free + length (inner_leaves m)) (array + length m.arrays) is) z at le lt).1;
      }

  mutual
    item_listed : (x : Item) (s : Scene) (path : LeafPath) (n : Numbering) (k0 k d free array : ℕ) (es : List NamedTree)
        → Stands table n path k0 (leafed_module s) → d ≡ k0 + k → IsItemIn (views scenes) x → IsWired (leafed_module s) k x
        → At table free (leaves_in path d (leafed_module s) n free array x)
        → AreInStep (IsTreeOf scenes s) (held_in k (statement_of x)) es → AllListed table path es
    item_listed (drive p b ps t) s path n k0 k d free array [] st e i w at h = λ x j. absurd j
    item_listed (drive p b ps t) s path n k0 k d free array (x ∷ es) st e i w at h = absurd h
    item_listed (when p t a b) s path n k0 k d free array es st e i w at h =
        let m = leafed_module s in
        let one = all_leaves_in path (d + 1) m n free array a in
        let two = all_leaves_in path (d + 1) m n (free + count_all a) (array + array_count_all a) b in
        let parts = step_parts (IsTreeOf scenes s) (all_held_in (k + 1) (block_of a)) (all_held_in (k + 1) (block_of b)) es h in
        let deep : d + 1 ≡ k0 + (k + 1) = omega (arith, e) in
        both_listed table path parts.0 parts.1 es parts.2
        (items_listed a s path n k0 (k + 1) (d + 1) free array parts.0 st deep i.0 w.1 (at_left table one two free at) parts.3)
        (items_listed b s path n k0 (k + 1) (d + 1) (free + count_all a) (array + array_count_all a) parts.1 st deep i.1 w.2
        (rw (counts_are path (d + 1) m n free array a) at (at_right table one two free at)) parts.4)
    item_listed (instance y d') s path n k0 k d free array [] st e i w at h = absurd h
    item_listed (instance y d') s path n k0 k d free array (x ∷ z ∷ es) st e i w at h = absurd h.1
    item_listed (instance y (made_of v is)) s path n k0 k d free array (x ∷ []) st e i w at h =
        let m = leafed_module s in
        let t : IsTreeOf scenes s (record { depth = k; own = y }) x = h.0 in
        let below = instance_path path m y in
        let deep = λ (z : ℕ). At table free (leaves_below below z (number n y.first) free array (made_of v is)) in
        let found = subst (λ u. IsDesignOf (views scenes) u (made_of v is)) (view_at scenes y.module_number t.child t.at) i in
        let stand : Stands table (numbering v (number n y.first) free) below d v =
        subst (λ z. Stands table (numbering v (number n y.first) free) below z v) (sym e)
        (held_stands table path k0 k free array n m v y _ st w.0 (subst deep e at)) in
        let inside : (g : PlacedModule) → In (modules_of_design below x.tree) g → IsListed table g =
        design_listed (made_of v is) t.child x.tree (get_in scenes y.module_number t.child t.at) found t.is below d (number n y.first) free array stand w.1 at in
        let named_so : (g : PlacedModule) → In (modules_of_design (path ++ named x.name ∷ []) x.tree) g → IsListed table g =
        subst (λ name. (g : PlacedModule) → In (modules_of_design (path ++ named name ∷ []) x.tree) g → IsListed table g) t.name inside in
        λ z j.
        ⊎_elim
        (λ (f : x ≡ z).
        subst (λ (q : NamedTree). (g : PlacedModule) → In (modules_of_design (path ++ named q.name ∷ []) q.tree) g → IsListed table g) f named_so)
        (λ (r : In [] z). absurd r) j

    items_listed : (xs : Items) (s : Scene) (path : LeafPath) (n : Numbering) (k0 k d free array : ℕ) (es : List NamedTree)
        → Stands table n path k0 (leafed_module s) → d ≡ k0 + k → AreItemsIn (views scenes) xs → AreWired (leafed_module s) k xs
        → At table free (all_leaves_in path d (leafed_module s) n free array xs)
        → AreInStep (IsTreeOf scenes s) (all_held_in k (block_of xs)) es → AllListed table path es
    items_listed done s path n k0 k d free array [] st e i w at h = λ x j. absurd j
    items_listed done s path n k0 k d free array (x ∷ es) st e i w at h = absurd h
    items_listed ((then) x xs) s path n k0 k d free array es st e i w at h =
        let m = leafed_module s in
        let one = leaves_in path d m n free array x in
        let two = all_leaves_in path d m n (free + count x) (array + array_count x) xs in
        let parts = step_parts (IsTreeOf scenes s) (held_in k (statement_of x)) (all_held_in k (block_of xs)) es h in
        both_listed table path parts.0 parts.1 es parts.2
        (item_listed x s path n k0 k d free array parts.0 st e i.0 w.0 (at_left table one two free at) parts.3)
        (items_listed xs s path n k0 k d (free + count x) (array + array_count x) parts.1 st e i.1 w.1
        (rw (count_is path d m n free array x) at (at_right table one two free at)) parts.4)

    pub design_listed : (d : Design) (s : Scene) (t : SourceDesign) → In scenes s → IsDesignOf (views scenes) (leafed_module s) d
        → IsSourceDesignOf scenes s t → BelowListed d t
    design_listed (made_of v is) s (source.made_of u trees) i e h =
        subst (λ m. BelowListed (made_of m is) (source.made_of u trees)) (sym e.0)
        (subst (λ z. BelowListed (made_of (leafed_module s) is) (source.made_of z trees)) (sym h.0)
        (λ path k first free array st w at.
        let m = leafed_module s in
        let n = numbering m first free in
        let beside = trees_of_module scenes s circuit names (scene_own circuit scenes are s i) trees h.1 in
        let all = items_listed is s path n k 0 k (free + length (inner_leaves m)) (array + length m.arrays) (trees_in trees) st (omega arith) e.2 w
        (inner_at table path k first free array m is at)
        (subst (λ b. AreInStep (IsTreeOf scenes s) (all_held_in 0 b) (trees_in trees)) (sym e.1) beside) in
        λ g among.
        ⊎_elim (λ (f : record { at = path; scene = s } ≡ g). subst (IsListed table) f (own_listed s path k first free array is st at))
        (λ (j : In (modules_of_instances path trees) g).
        let from = in_flat_map_from (λ (x : NamedTree). modules_of_design (path ++ named x.name ∷ []) x.tree) (trees_in trees) g
        (subst (λ hs. In hs g) (sym (modules_by_trees path trees)) j) in
        all from.0 from.1 g from.2) among))
