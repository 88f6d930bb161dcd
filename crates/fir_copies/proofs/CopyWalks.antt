-- Each copy of a module of a design has its leaves in the table of the whole, and all leaves behind the main module's ports are such.
use Rattle.std.proofs.Common.{◌≡◌, ℕ, ◌+◌, ◌-◌, ◌<◌, ◌≤◌, List, [], ◌∷◌, ◌++◌, length, map, slice_get, Some, refl, sym, ap, ◌∙◌, subst, inl, arith, append-nil}
use Rattle.std.proofs.lemmas.List.{length-drop, length-map}
use Rattle.std.proofs.lemmas.Grind.{flat_map-append}
use Rattle.fir_base.specs.Lists.{In}
use Rattle.fir_base.proofs.Elements.{get_in}
use Rattle.fir_base.proofs.Members.{in_left, in_right}
use Rattle.fir_ast.specs.Circuits.{CircuitTree}
use Rattle.fir_meaning.specs.Elaborated.{AreScenes}
use Rattle.fir_meaning.specs.LeafPaths.{LeafPath, named}
use Rattle.fir_meaning.specs.ModuleScenes.{Scene}
use Rattle.fir_meaning.specs.SourceDependence.{modules_of_design, modules_of_instances}
use Rattle.fir_meaning.specs.SourceDesigns.{IsSourceDesignOf, SourceDesign}
use Rattle.fir_meaning.specs.SourceDesigns as source
use Rattle.fir_meaning.specs.working.DesignPaths.{instance_path}
use Rattle.fir_meaning.specs.working.Designs.{AreItemsIn, Design, IsDesignOf, IsItemIn, Item, Items, block_of, done, drive, instance, made_of, statement_of, then, when}
use Rattle.fir_meaning.specs.working.Elaborated.{views}
use Rattle.fir_meaning.specs.working.FlatDesigns.{array_count, array_count_all, count, count_all, count_below, inner_leaves}
use Rattle.fir_meaning.specs.working.FlatLeaves.{all_arrays_in, all_leaves_in, arrays_below, arrays_in, leaves_below, leaves_in, placed_array, placed_leaf}
use Rattle.fir_meaning.specs.working.LeafBlocks.{HeldInstance}
use Rattle.fir_meaning.specs.working.LeafModules.{LeafArray, LeafDeclared, LeafModule, leaf_at}
use Rattle.fir_meaning.specs.working.LeafedModules.{leafed_module}
use Rattle.fir_meaning.specs.working.NameGroups.{HasNames}
use Rattle.fir_meaning.specs.working.Numberings.{Numbering, moved_role, number, numbering}
use Rattle.fir_leaf.specs.working.SoundDesigns.{AreWired, IsWired}
use Rattle.fir_leaf.proofs.FlatArrays.{array_count_is, array_counts_are}
use Rattle.fir_leaf.proofs.FlatPlaces.{At, at_left, at_right, count_is, counts_are, held_stands, inner_at, placed_at}
use Rattle.fir_leaf.proofs.MovedTerms.{Stands, number_more, number_own}
use Rattle.fir_design.proofs.HeldInstances.{Held, all_held_in, held_in}
use Rattle.fir_design.proofs.InstanceTrees.{IsTreeOf, NamedTree, trees_in, trees_of_module}
use Rattle.fir_design.proofs.ListsInStep.{AreInStep, step_parts}
use Rattle.fir_design.proofs.NumberedScenes.{scene_own, view_at}
use Rattle.fir_design_faults.proofs.FlatDrives.{modules_by_trees, modules_of_trees}
use Rattle.fir_copies.specs.working.Copies.{Copy, all_copies_in, copies_below, copies_in}
use Rattle.fir_copies.proofs.CopyPlaces.{ArePlaced, HaveCopies, IsGivenPort, PartCopies, PortsStand, both_copies, made_copies, no_copies, one_copy}

pub trees_joined : (path : LeafPath) (es fs : List NamedTree) → modules_of_trees path (es ++ fs) ≡ modules_of_trees path es ++ modules_of_trees path fs
trees_joined path es fs = flat_map-append (λ (e : NamedTree). modules_of_design (path ++ named e.name ∷ []) e.tree) es fs

module _ (circuit : CircuitTree) (names : HasNames circuit) (scenes : List Scene) (are : AreScenes circuit scenes) (table : List LeafDeclared)
    (whole : List LeafArray)
    (given : (s : Scene) → In scenes s → (h : Held) → In (all_held_in 0 (leafed_module s).body) h → (child : Scene)
    → slice_get scenes h.own.module_number ≡ Some child → (z : ℕ) → z < (leafed_module child).port_leaves
    → IsGivenPort scenes (leafed_module s) (leafed_module child) h.own z) where
  -- the ports of these instances of a module
  abbrev AreGiven : Scene → List Held → Type 0
  AreGiven s hs =
      (h : Held) → In hs h → (child : Scene) → slice_get scenes h.own.module_number ≡ Some child → (z : ℕ) → z < (leafed_module child).port_leaves
      → IsGivenPort scenes (leafed_module s) (leafed_module child) h.own z

  abbrev pub BelowCopies : Design → SourceDesign → ℕ → Type 0
  BelowCopies (made_of m is) t x =
      (path : LeafPath) (k first free array : ℕ) → Stands table (numbering m first free) path k m → PortsStand scenes table m first
      → first + m.port_leaves ≤ free → AreWired m 0 is → At table free (leaves_below path k first free array (made_of m is)) → At whole array (arrays_below path first free (made_of m is))
      → HaveCopies scenes table whole (modules_of_design path t) free (free + count_below (made_of m is)) (copies_below x first free array (made_of m is))

  -- where a module's leaves stand while its statements are gone through
  record Here (s : Scene) (path : LeafPath) (n : Numbering) (k0 : ℕ) : Type 0 where
    array : ℕ
    stands : Stands table n path k0 (leafed_module s)
    placed : ArePlaced table path k0 n array (leafed_module s)

  -- the leaves of an instance's ports
  ports_of_instance : (s : Scene) (path : LeafPath) (n : Numbering) (k0 : ℕ) → Here s path n k0 → (y : HeldInstance) (child : Scene)
      → (leafed_module s).port_leaves ≤ y.first → y.first + (leafed_module child).port_leaves ≤ length (leafed_module s).leaves
      → ((z : ℕ) → z < (leafed_module child).port_leaves → IsGivenPort scenes (leafed_module s) (leafed_module child) y z)
      → PortsStand scenes table (leafed_module child) (number n y.first)
  ports_of_instance s path n k0 here y child own room each = record {
    holds = λ alike z lt. ap (λ (l : LeafDeclared). l.holds) (at z lt) ∙ (each z lt).holds alike;
    sinks = λ z lt e.
        ap (λ (l : LeafDeclared). l.role) (at z lt) ∙ ap (moved_role n here.array) ((each z lt).gives e);
    places = λ z lt e. ap (λ (l : LeafDeclared). l.place) (at z lt) ∙ (each z lt).place e;
  }
    where
      at : (z : ℕ) → z < (leafed_module child).port_leaves
          → leaf_at table (number n y.first + z) ≡ placed_leaf path k0 n here.array (leaf_at (leafed_module s).leaves (y.first + z))
      at z lt =
          ap (leaf_at table) (number_more n y.first z (λ low. absurd (omega (arith, low, here.stands.ports, own))))
          ∙ here.placed (y.first + z) (omega (arith, own)) (omega (arith, lt, room))

  abbrev Part : (s : Scene) (path : LeafPath) (n : Numbering) (free long : ℕ) → List NamedTree → List Copy → List Held → Type 0
  Part s path n free long es ks hs = PartCopies scenes table whole n (modules_of_trees path es) free (free + long) ks hs

  mutual
    item_copies : (x : Item) (s : Scene) (path : LeafPath) (n : Numbering) (k0 k d free array : ℕ) (es : List NamedTree)
        → Here s path n k0 → n.own + length (inner_leaves (leafed_module s)) ≤ free → d ≡ k0 + k → IsItemIn (views scenes) x → IsWired (leafed_module s) k x
        → AreGiven s (held_in k (statement_of x)) → At table free (leaves_in path d (leafed_module s) n free array x)
        → At whole array (arrays_in path (leafed_module s) n free x)
        → AreInStep (IsTreeOf scenes s) (held_in k (statement_of x)) es
        → Part s path n free (count x) es (copies_in n free array x) (held_in k (statement_of x))
    item_copies (drive p b ps t) s path n k0 k d free array [] here low e i w given at arrays h =
        let none : free + 0 ≡ free = omega arith in
        subst (λ high. PartCopies scenes table whole n [] free high [] []) (sym none) (no_copies scenes table whole n free)
    item_copies (drive p b ps t) s path n k0 k d free array (x ∷ es) here low e i w given at arrays h = absurd h
    item_copies (when p t a b) s path n k0 k d free array es here low e i w given at arrays h =
        let m = leafed_module s in
        let one = all_leaves_in path (d + 1) m n free array a in
        let two = all_leaves_in path (d + 1) m n (free + count_all a) (array + array_count_all a) b in
        let three = all_arrays_in path m n free a in
        let four = all_arrays_in path m n (free + count_all a) b in
        let us = all_held_in (k + 1) (block_of a) in
        let vs = all_held_in (k + 1) (block_of b) in
        let parts = step_parts (IsTreeOf scenes s) us vs es h in
        let deep : d + 1 ≡ k0 + (k + 1) = omega (arith, e) in
        let first = items_copies a s path n k0 (k + 1) (d + 1) free array parts.0 here low deep i.0 w.1 (λ q j. given q (in_left us vs q j))
        (at_left table one two free at) (at_left whole three four array arrays) parts.3 in
        let second = items_copies b s path n k0 (k + 1) (d + 1) (free + count_all a) (array + array_count_all a) parts.1 here (omega (arith, low)) deep
        i.1 w.2 (λ q j. given q (in_right us vs q j)) (rw (counts_are path (d + 1) m n free array a) at (at_right table one two free at))
        (rw (array_counts_are path m n free a) at (at_right whole three four array arrays)) parts.4 in
        let far : (free + count_all a) + count_all b ≡ free + (count_all a + count_all b) = omega arith in
        let ks = all_copies_in n free array a ++ all_copies_in n (free + count_all a) (array + array_count_all a) b in
        subst (λ high. PartCopies scenes table whole n (modules_of_trees path es) free high ks (us ++ vs)) far
        (subst (λ hs. PartCopies scenes table whole n hs free ((free + count_all a) + count_all b) ks (us ++ vs))
        (sym (ap (modules_of_trees path) parts.2 ∙ trees_joined path parts.0 parts.1))
        (both_copies scenes table whole n (modules_of_trees path parts.0) (modules_of_trees path parts.1) free (free + count_all a)
        ((free + count_all a) + count_all b) (all_copies_in n free array a) (all_copies_in n (free + count_all a) (array + array_count_all a) b) us vs first second))
    item_copies (instance y d') s path n k0 k d free array [] here low e i w given at arrays h = absurd h
    item_copies (instance y d') s path n k0 k d free array (x ∷ z ∷ es) here low e i w given at arrays h = absurd h.1
    item_copies (instance y (made_of v is)) s path n k0 k d free array (x ∷ []) here low e i w given at arrays h =
        let m = leafed_module s in
        let t : IsTreeOf scenes s (record { depth = k; own = y }) x = h.0 in
        let below = instance_path path m y in
        let deep = λ (z : ℕ). At table free (leaves_below below z (number n y.first) free array (made_of v is)) in
        let found = subst (λ u. IsDesignOf (views scenes) u (made_of v is)) (view_at scenes y.module_number t.child t.at) i in
        let stand : Stands table (numbering v (number n y.first) free) below d v =
        subst (λ z. Stands table (numbering v (number n y.first) free) below z v) (sym e)
        (held_stands table path k0 k free array n m v y _ here.stands w.0 (subst deep e at)) in
        let view : v ≡ leafed_module t.child = found.0 in
        let within : y.first + (leafed_module t.child).port_leaves ≤ length m.leaves =
        subst (λ (u : LeafModule). y.first + u.port_leaves ≤ length m.leaves) view w.0.within in
        let ports : PortsStand scenes table v (number n y.first) =
        subst (λ u. PortsStand scenes table u (number n y.first)) (sym view)
        (ports_of_instance s path n k0 here y t.child w.0.own within (given (record { depth = k; own = y }) (inl refl) t.child t.at)) in
        let apart : number n y.first + v.port_leaves ≤ free =
        omega (
          arith,
          number_own n y.first (rw here.stands.ports w.0.own),
          here.stands.ports,
          w.0.own,
          w.0.within,
          length-drop m.port_leaves m.leaves,
          low,
        ) in
        let copies = design_copies (made_of v is) t.child x.tree y.module_number t.at found t.is below d (number n y.first) free array stand ports
        apart w.1 at arrays in
        let high = free + count_below (made_of v is) in
        let named_so : HaveCopies scenes table whole (modules_of_design (path ++ named x.name ∷ []) x.tree) free high
        (copies_below y.module_number (number n y.first) free array (made_of v is)) =
        subst (λ name. HaveCopies scenes table whole (modules_of_design (path ++ named name ∷ []) x.tree) free high
        (copies_below y.module_number (number n y.first) free array (made_of v is))) t.name copies in
        let all : HaveCopies scenes table whole (modules_of_trees path (x ∷ [])) free high (copies_below y.module_number (number n y.first) free array (made_of v is)) =
        subst (λ hs. HaveCopies scenes table whole hs free high (copies_below y.module_number (number n y.first) free array (made_of v is)))
        (sym (append-nil (modules_of_design (path ++ named x.name ∷ []) x.tree))) named_so in
        one_copy scenes table whole n (modules_of_trees path (x ∷ [])) free high
        (record { module_number = y.module_number; first = number n y.first; own = free; array = array })
        (all_copies_in (numbering v (number n y.first) free) (free + length (inner_leaves v)) (array + length v.arrays) is) (record { depth = k; own = y }) all refl refl

    items_copies : (xs : Items) (s : Scene) (path : LeafPath) (n : Numbering) (k0 k d free array : ℕ) (es : List NamedTree)
        → Here s path n k0 → n.own + length (inner_leaves (leafed_module s)) ≤ free → d ≡ k0 + k → AreItemsIn (views scenes) xs → AreWired (leafed_module s) k xs
        → AreGiven s (all_held_in k (block_of xs)) → At table free (all_leaves_in path d (leafed_module s) n free array xs)
        → At whole array (all_arrays_in path (leafed_module s) n free xs)
        → AreInStep (IsTreeOf scenes s) (all_held_in k (block_of xs)) es
        → Part s path n free (count_all xs) es (all_copies_in n free array xs) (all_held_in k (block_of xs))
    items_copies done s path n k0 k d free array [] here low e i w given at arrays h =
        let none : free + 0 ≡ free = omega arith in
        subst (λ high. PartCopies scenes table whole n [] free high [] []) (sym none) (no_copies scenes table whole n free)
    items_copies done s path n k0 k d free array (x ∷ es) here low e i w given at arrays h = absurd h
    items_copies ((then) x xs) s path n k0 k d free array es here low e i w given at arrays h =
        let m = leafed_module s in
        let one = leaves_in path d m n free array x in
        let two = all_leaves_in path d m n (free + count x) (array + array_count x) xs in
        let three = arrays_in path m n free x in
        let four = all_arrays_in path m n (free + count x) xs in
        let us = held_in k (statement_of x) in
        let vs = all_held_in k (block_of xs) in
        let parts = step_parts (IsTreeOf scenes s) us vs es h in
        let first = item_copies x s path n k0 k d free array parts.0 here low e i.0 w.0 (λ q j. given q (in_left us vs q j))
        (at_left table one two free at) (at_left whole three four array arrays) parts.3 in
        let second = items_copies xs s path n k0 k d (free + count x) (array + array_count x) parts.1 here (omega (arith, low)) e i.1 w.1
        (λ q j. given q (in_right us vs q j)) (rw (count_is path d m n free array x) at (at_right table one two free at))
        (rw (array_count_is path m n free x) at (at_right whole three four array arrays)) parts.4 in
        let far : (free + count x) + count_all xs ≡ free + (count x + count_all xs) = omega arith in
        let ks = copies_in n free array x ++ all_copies_in n (free + count x) (array + array_count x) xs in
        subst (λ high. PartCopies scenes table whole n (modules_of_trees path es) free high ks (us ++ vs)) far
        (subst (λ hs. PartCopies scenes table whole n hs free ((free + count x) + count_all xs) ks (us ++ vs))
        (sym (ap (modules_of_trees path) parts.2 ∙ trees_joined path parts.0 parts.1))
        (both_copies scenes table whole n (modules_of_trees path parts.0) (modules_of_trees path parts.1) free (free + count x)
        ((free + count x) + count_all xs) (copies_in n free array x) (all_copies_in n (free + count x) (array + array_count x) xs) us vs first second))

    pub design_copies : (d : Design) (s : Scene) (t : SourceDesign) (x : ℕ) → slice_get scenes x ≡ Some s → IsDesignOf (views scenes) (leafed_module s) d
        → IsSourceDesignOf scenes s t → BelowCopies d t x
    design_copies (made_of v is) s (source.made_of u trees) x there e h =
        subst (λ m. BelowCopies (made_of m is) (source.made_of u trees) x) (sym e.0)
        (subst (λ z. BelowCopies (made_of (leafed_module s) is) (source.made_of z trees) x) (sym h.0)
        (λ path k first free array st ports apart w at arrays.
        let m = leafed_module s in
        let n = numbering m first free in
        let own = length (inner_leaves m) in
        let counted : own ≡ length m.leaves - m.port_leaves = length-drop m.port_leaves m.leaves in
        let body : block_of is ≡ m.body = e.1 in
        let among = get_in scenes x s there in
        let beside = trees_of_module scenes s circuit names (scene_own circuit scenes are s among) trees h.1 in
        let rest = all_leaves_in path k m n (free + own) (array + length m.arrays) is in
        let placed : ArePlaced table path k n array m =
        λ z le lt. ap (leaf_at table) (number_own n z le) ∙ (placed_at table path k first free array m rest z at le lt).1 in
        let these = map (placed_array path n) m.arrays in
        let more = all_arrays_in path m n (free + own) is in
        let many : length these ≡ length m.arrays = length-map m.arrays (placed_array path n) in
        let here : Here s path n k = record { array = array; stands = st; placed = placed } in
        let parts = items_copies is s path n k 0 k (free + own) (array + length m.arrays) (trees_in trees) here (omega arith) (omega arith) e.2 w
        (λ q j. given s among q (subst (λ b. In (all_held_in 0 b) q) body j)) (inner_at table path k first free array m is at)
        (rw many at (at_right whole these more array arrays))
        (subst (λ b. AreInStep (IsTreeOf scenes s) (all_held_in 0 b) (trees_in trees)) (sym body) beside) in
        let far : (free + own) + count_all is ≡ free + (own + count_all is) = omega arith in
        let ks = all_copies_in n (free + own) (array + length m.arrays) is in
        let part : PartCopies scenes table whole n (modules_of_instances path trees) (free + own) (free + count_below (made_of m is)) ks (all_held_in 0 m.body) =
        subst (λ b. PartCopies scenes table whole n (modules_of_instances path trees) (free + own) (free + count_below (made_of m is)) ks (all_held_in 0 b)) body
        (subst (λ high. PartCopies scenes table whole n (modules_of_instances path trees) (free + own) high ks (all_held_in 0 (block_of is))) far
        (subst (λ hs. PartCopies scenes table whole n hs (free + own) ((free + own) + count_all is) ks (all_held_in 0 (block_of is))) (modules_by_trees path trees)
        parts)) in
        made_copies scenes table whole (record { module_number = x; first = first; own = free; array = array }) (modules_of_instances path trees) (free + own)
        (free + count_below (made_of m is)) ks s path k part there st ports placed (at_left whole these more array arrays) apart (omega (arith, counted)) (number_own n)))
