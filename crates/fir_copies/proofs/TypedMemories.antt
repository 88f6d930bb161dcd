-- The memories of a design's circuit have types where those of its modules have.
use Rattle.std.proofs.Common.{◌≡◌, ℕ, ◌+◌, ◌<◌, ◌≤◌, List, ◌++◌, Bool, true, false, map, nat_lt, length, slice_get, Some, [], refl, sym, ap, ◌∙◌, subst, inl, inr, ⊎_elim, ◌⊎◌}
use Rattle.std.proofs.lemmas.Bool.{ltb-false, ltb-true}
use Rattle.std.proofs.lemmas.Option.{same_Some}
use Rattle.fir_base.specs.Lists.{In}
use Rattle.fir_base.proofs.Elements.{get_in, number_of}
use Rattle.fir_base.proofs.Members.{in_either, in_left, in_map_from, in_right}
use Rattle.fir_ast.specs.Circuits.{CircuitTree}
use Rattle.fir_meaning.specs.LeafPaths.{LeafPath}
use Rattle.fir_meaning.specs.ModuleScenes.{Scene}
use Rattle.fir_meaning.specs.SourceDependence.{all_modules}
use Rattle.fir_meaning.specs.SourceDesigns.{SourceDesign}
use Rattle.fir_meaning.specs.working.DesignPaths.{instance_path}
use Rattle.fir_meaning.specs.working.Designs.{AreItemsIn, Design, IsDesignOf, IsItemIn, Item, Items, done, drive, instance, made_of, module_of, then, when}
use Rattle.fir_meaning.specs.working.Elaborated.{views}
use Rattle.fir_meaning.specs.working.FlatDesigns.{array_count, array_count_all, count, count_all, inner_leaves}
use Rattle.fir_meaning.specs.working.FlatLeaves.{all_arrays_in, arrays_below, arrays_in, placed_array}
use Rattle.fir_meaning.specs.working.Flattened.{flattened}
use Rattle.fir_meaning.specs.working.LeafedModules.{leafed_module, module_leaves}
use Rattle.fir_meaning.specs.working.LeafModules.{LeafArray, LeafDeclared, LeafModule, Role, leaf_at, role_at, sink, source}
use Rattle.fir_meaning.specs.working.Numberings.{Numbering, moved_role, number, numbering}
use Rattle.fir_leaf.proofs.FlatMeaning.{main_table}
use Rattle.fir_design.specs.working.MeaningLaws.{AreDesigns}
use Rattle.fir_design.proofs.NumberedScenes.{view_at}
use Rattle.fir_memory_types.specs.working.TypedMemories.{AreMemoriesTyped, IsArrayTyped, IsMemoryRoleTyped}
use Rattle.fir_copies.specs.working.Copies.{Copy, all_copies_in, copies_below, copies_in, copies_of}
use Rattle.fir_copies.specs.working.WholeDesigns.{DesignsHaveTypedMemories}
use Rattle.fir_copies.proofs.CopyLeaves.{copy_holds}
use Rattle.fir_copies.proofs.CopyPlaces.{HaveOneWidths, IsInner}
use Rattle.fir_copies.proofs.MovedMemories.{FitsIn, array_moved, memory_role_moved}
use Rattle.fir_copies.proofs.OneWidths.{one_widths}
use Rattle.fir_copies.proofs.PortRoles.{port_role_is}
use Rattle.fir_copies.proofs.StandingCopies.{array_there}
use Rattle.fir_copies.proofs.WholeCopies.{each_inner, each_whole, main_port}

-- the leaves of a copy hold in the whole what they hold in its module
record CopyFits (scenes : List Scene) (leaves : List LeafDeclared) (k : Copy) : Type 0 where
  scene : Scene
  is : slice_get scenes k.module_number ≡ Some scene
  fits : FitsIn leaves (numbering (leafed_module scene) k.first k.own) (leafed_module scene)

module _ (scenes : List Scene) (leaves : List LeafDeclared)
    (typed : (s : Scene) → In scenes s → AreMemoriesTyped (leafed_module s).leaves (leafed_module s).arrays) where
  abbrev AllFit : List Copy → Type 0
  AllFit ks = (k : Copy) → In ks k → CopyFits scenes leaves k

  abbrev AreTyped : List LeafArray → Type 0
  AreTyped xs = (a : LeafArray) → In xs a → IsArrayTyped leaves a

  both_typed : (xs ys : List LeafArray) → AreTyped xs → AreTyped ys → AreTyped (xs ++ ys)
  both_typed xs ys h g a i = ⊎_elim (h a) (g a) (in_either xs ys a i)

  own_typed : (s : Scene) → In scenes s → (path : LeafPath) (n : Numbering) → FitsIn leaves n (leafed_module s)
      → AreTyped (map (placed_array path n) (leafed_module s).arrays)
  own_typed s among path n fits a i =
      let from = in_map_from (placed_array path n) (leafed_module s).arrays a i in
      let at = number_of (leafed_module s).arrays from.0 from.1 in
      subst (IsArrayTyped leaves) from.2
      (array_moved leaves n (leafed_module s) fits path from.0 ((typed s among).arrays_typed at.0 from.0 at.1))

  mutual
    item_typed : (i : Item) (path : LeafPath) (m : LeafModule) (n : Numbering) (free array : ℕ) → IsItemIn (views scenes) i
        → AllFit (copies_in n free array i) → AreTyped (arrays_in path m n free i)
    item_typed (drive p b ps t) path m n free array e all = λ a i. absurd i
    item_typed (when p c a b) path m n free array e all =
        let one = all_copies_in n free array a in
        let two = all_copies_in n (free + count_all a) (array + array_count_all a) b in
        both_typed (all_arrays_in path m n free a) (all_arrays_in path m n (free + count_all a) b)
        (items_typed a path m n free array e.0 (λ k i. all k (in_left one two k i)))
        (items_typed b path m n (free + count_all a) (array + array_count_all a) e.1 (λ k i. all k (in_right one two k i)))
    item_typed (instance i d) path m n free array e all =
        below_typed d (instance_path path m i) i.module_number (number n i.first) free array e all

    items_typed : (is : Items) (path : LeafPath) (m : LeafModule) (n : Numbering) (free array : ℕ) → AreItemsIn (views scenes) is
        → AllFit (all_copies_in n free array is) → AreTyped (all_arrays_in path m n free is)
    items_typed done path m n free array e all = λ a i. absurd i
    items_typed ((then) i is) path m n free array e all =
        let one = copies_in n free array i in
        let two = all_copies_in n (free + count i) (array + array_count i) is in
        both_typed (arrays_in path m n free i) (all_arrays_in path m n (free + count i) is)
        (item_typed i path m n free array e.0 (λ k j. all k (in_left one two k j)))
        (items_typed is path m n (free + count i) (array + array_count i) e.1 (λ k j. all k (in_right one two k j)))

    -- of a design of the module of a number
    below_typed : (d : Design) (path : LeafPath) (x first free array : ℕ) → IsDesignOf (views scenes) (module_of (views scenes) x) d
        → AllFit (copies_below x first free array d) → AreTyped (arrays_below path first free d)
    below_typed (made_of v is) path x first free array e all =
        let k : Copy = record { module_number = x; first = first; own = free; array = array } in
        let own = all k (inl refl) in
        let m = leafed_module own.scene in
        let among = get_in scenes x own.scene own.is in
        let view : v ≡ m = e.0 ∙ view_at scenes x own.scene own.is in
        let mine : AreTyped (map (placed_array path (numbering v first free)) v.arrays) =
        subst (λ (u : LeafModule). AreTyped (map (placed_array path (numbering u first free)) u.arrays)) (sym view)
        (own_typed own.scene among path (numbering m first free) own.fits) in
        both_typed (map (placed_array path (numbering v first free)) v.arrays)
        (all_arrays_in path v (numbering v first free) (free + length (inner_leaves v)) is) mine
        (items_typed is path v (numbering v first free) (free + length (inner_leaves v)) (array + length v.arrays) e.2 (λ c i. all c (inr i)))

module _ (c : CircuitTree) (m : LeafModule) (is : Items) (t : SourceDesign) (a : AreDesigns c (made_of m is) t) (alike : HaveOneWidths a.scenes) (x : ℕ)
    (at : slice_get a.scenes x ≡ Some a.main)
    (typed : (s : Scene) → In a.scenes s → AreMemoriesTyped (leafed_module s).leaves (leafed_module s).arrays) where
  abbrev table : List LeafDeclared
  table = (flattened (made_of m is)).leaves

  abbrev arrays : List LeafArray
  arrays = (flattened (made_of m is)).arrays

  copy_fits : (k : Copy) → In (copies_of x (made_of m is)) k → CopyFits a.scenes (flattened (made_of m is)).leaves k
  copy_fits k i =
      let s = (each_whole c m is t a x at k i).stands in
      record {
        scene = s.scene;
        is = s.is;
        fits = record {
          within = s.stands.within;
          holds = copy_holds a.scenes table (all_modules t) (copies_of x (made_of m is)) k s alike;
        };
      }

  -- what is to hold of the leaf of a number
  abbrev IsLeafTyped : ℕ → Type 0
  IsLeafTyped y =
      IsMemoryRoleTyped (flattened (made_of m is)).leaves (flattened (made_of m is)).arrays (leaf_at (flattened (made_of m is)).leaves y).holds
      (leaf_at (flattened (made_of m is)).leaves y).role

  port_typed : (y : ℕ) → y < m.port_leaves → IsLeafTyped y
  port_typed y lt =
      let here : leaf_at (main_table m is) y ≡ leaf_at (leafed_module a.main).leaves y =
      main_port m is a.design.main.0 y lt ∙ ap (λ (u : LeafModule). leaf_at u.leaves y) a.design.is.0 in
      let low : y < (leafed_module a.main).port_leaves = subst (λ (u : LeafModule). y < u.port_leaves) a.design.is.0 lt in
      by (role_at (leafed_module a.main) y) (ap (λ (l : LeafDeclared). l.role) here) (port_role_is a.main y low)
    where
      by : (r : Role) → (leaf_at (flattened (made_of m is)).leaves y).role ≡ r → (r ≡ source) ⊎ (r ≡ sink) → IsLeafTyped y
      by r e (inl s) = rw (e ∙ s) tt
      by r e (inr s) = rw (e ∙ s) tt

  inner_typed : (y : ℕ) → IsInner a.scenes (flattened (made_of m is)).leaves (copies_of x (made_of m is)) y → IsLeafTyped y
  inner_typed y i =
      let whole = each_whole c m is t a x at i.copy i.among in
      let s = whole.stands in
      let w = leafed_module s.scene in
      let n = numbering w i.copy.first i.copy.own in
      let same : i.scene ≡ s.scene = same_Some i.scene s.scene (sym i.is ∙ s.is) in
      let own : w.port_leaves ≤ i.leaf = subst (λ (u : Scene). (leafed_module u).port_leaves ≤ i.leaf) same i.own in
      let within : i.leaf < length w.leaves = subst (λ (u : Scene). i.leaf < length (module_leaves u)) same i.within in
      let number_is : number n i.leaf ≡ y =
      subst (λ (u : Scene). number (numbering (leafed_module u) i.copy.first i.copy.own) i.leaf ≡ y) same i.number_is in
      let holds = copy_holds a.scenes table (all_modules t) (copies_of x (made_of m is)) i.copy s alike in
      let role : (leaf_at table (number n i.leaf)).role ≡ moved_role n i.copy.array (role_at w i.leaf) =
      ap (λ (l : LeafDeclared). l.role) (s.placed i.leaf own within) in
      let moved =
      memory_role_moved table n w (record { within = s.stands.within; holds = holds }) arrays s.path i.copy.array
      (array_there arrays s.path n i.copy.array w whole.arrays) (leaf_at w.leaves i.leaf).holds (role_at w i.leaf)
      ((typed s.scene (get_in a.scenes i.copy.module_number s.scene s.is)).roles i.leaf within) in
      subst IsLeafTyped number_is
      (subst (λ h. IsMemoryRoleTyped table arrays h (leaf_at table (number n i.leaf)).role) (sym (holds i.leaf within))
      (subst (IsMemoryRoleTyped table arrays (leaf_at w.leaves i.leaf).holds) (sym role) moved))

  memories_typed : AreMemoriesTyped (flattened (made_of m is)).leaves (flattened (made_of m is)).arrays
  memories_typed = record {
    roles = λ y lt. by y lt (nat_lt y m.port_leaves) refl;
    arrays_typed = λ k b e.
        below_typed a.scenes table typed (made_of m is) [] x 0 m.port_leaves 0
        (subst (λ (u : LeafModule). IsDesignOf (views a.scenes) u (made_of m is)) (sym (view_at a.scenes x a.main at)) a.design.is) copy_fits b
        (get_in arrays k b e);
  }
    where
      by : (y : ℕ) → y < length (flattened (made_of m is)).leaves → (b : Bool) → nat_lt y m.port_leaves ≡ b → IsLeafTyped y
      by y lt true e = port_typed y (ltb-true y m.port_leaves e)
      by y lt false e = inner_typed y (each_inner c m is t a x at y (ltb-false y m.port_leaves e) lt)

pub designs_have_memories : DesignsHaveTypedMemories
designs_have_memories c (made_of m is) t a widths typed =
    let x = number_of a.scenes a.main a.among in memories_typed c m is t a (one_widths c a.scenes widths) x.0 x.1 typed
