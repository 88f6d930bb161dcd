-- In a design each module's statements drive leaves that no other module drives, and what is live for them in the whole is what is live in the module, moved;
-- so is what drives them in a net.
use Rattle.std.proofs.Common.{◌≡◌, ℕ, ◌+◌, ◌-◌, ◌<◌, ◌≤◌, List, [], ◌∷◌, ◌++◌, map, Bool, true, false, not, ◌||◌, nat_lt, length, slice_get, Some, refl, sym, ap, ◌∙◌, subst, inl, inr, ⊎_elim, arith, ◌⊎◌}
use Rattle.std.proofs.lemmas.Bool.{ltb-false, ltb-true}
use Rattle.std.proofs.lemmas.List.{length-drop}
use Rattle.fir_base.specs.Lists.{Distinct, In}
use Rattle.fir_base.proofs.Elements.{get_in}
use Rattle.fir_base.proofs.Members.{in_either, in_left, in_right}
use Rattle.fir_ast.specs.Circuits.{CircuitTree}
use Rattle.fir_meaning.specs.Elaborated.{AreScenes}
use Rattle.fir_meaning.specs.LeafPaths.{LeafPath, named}
use Rattle.fir_meaning.specs.ModuleScenes.{Scene}
use Rattle.fir_meaning.specs.SourceDependence.{PlacedModule, modules_of_design, modules_of_instances}
use Rattle.fir_meaning.specs.SourceDesigns.{IsSourceDesignOf, SourceDesign}
use Rattle.fir_meaning.specs.SourceDesigns as source
use Rattle.fir_meaning.specs.working.DesignPaths.{instance_path}
use Rattle.fir_meaning.specs.working.Designs.{AreItemsIn, Design, IsDesignOf, IsItemIn, Item, Items, block_of, done, drive, instance, made_of, statement_of, then, when}
use Rattle.fir_meaning.specs.working.Elaborated.{views}
use Rattle.fir_meaning.specs.working.FlatDesigns.{array_count, array_count_all, count, count_all, count_below, flat, flat_all, flat_below, inner_leaves}
use Rattle.fir_meaning.specs.working.FlatLeaves.{all_leaves_in, leaves_below, leaves_in, placed_leaf}
use Rattle.fir_meaning.specs.working.LeafBlocks.{HeldInstance, LeafBlock}
use Rattle.fir_meaning.specs.working.LeafBlocks as over
use Rattle.fir_meaning.specs.working.LeafModules.{LeafDeclared, LeafModule, depth_at, leaf_at, may_drive, role_at}
use Rattle.fir_meaning.specs.working.LeafedModules.{leafed_module, module_leaves}
use Rattle.fir_meaning.specs.working.NameGroups.{HasNames}
use Rattle.fir_meaning.specs.working.Numberings.{Numbering, number, numbering}
use Rattle.fir_meaning.specs.working.UndrivenChoices.{drives, drives_any}
use Rattle.fir_leaf.specs.working.NamedDesigns.{AreNamedItems, IsNamedItem, all_instances_in, instances_in}
use Rattle.fir_leaf.specs.working.SoundDesigns.{AreWired, IsWired}
use Rattle.fir_leaf.proofs.FlatPlaces.{At, at_left, at_right, count_is, counts_are, held_stands, inner_at, placed_at}
use Rattle.fir_leaf.proofs.FlatStores.{depths}
use Rattle.fir_leaf.proofs.MovedTerms.{Stands, number_more, number_own, number_port}
use Rattle.fir_design.proofs.HeldInstances.{Held, all_held_in, held_in}
use Rattle.fir_design.proofs.InstanceTrees.{IsTreeOf, NamedTree, trees_in, trees_of_module}
use Rattle.fir_design.proofs.ListsInStep.{AreInStep, step_parts}
use Rattle.fir_design.proofs.NumberedScenes.{scene_own, view_at}
use Rattle.fir_design_faults.proofs.DrivenParts.{Drives, MayDrive, joined_drives, no_statements, one_drive, when_drives}
use Rattle.fir_design_faults.proofs.FlatDrives.{Driver, IsTurned, Member, driver_within, left_true, modules_by_trees, modules_of_trees, not_true, right_true}
use Rattle.fir_meaning.specs.working.Choices.{covers_all, lives_all}
use Rattle.fir_design_faults.proofs.FlatLives.{moved_live, quiet}
use Rattle.fir_design_faults.proofs.MovedDrivers.{DriverMoves, quiet_moves}
use Rattle.fir_design_faults.proofs.ReadStatements.{AreReading, IsReading}
use Rattle.fir_design_faults.proofs.OwnNumbers.{HasRoom, IsInst, OwnDrives, distinct_left, distinct_right, own_apart}

-- a leaf that a design may drive: one of its module's ports, or one of its own
abbrev pub InRegion : LeafModule → ℕ → ℕ → ℕ → ℕ → Type 0
InRegion m first low high x =
    ((z : ℕ) × (z < m.port_leaves) × (first + z ≡ x) × (may_drive (role_at m z) ≡ true)) ⊎ ((low ≤ x) × (x < high))

-- the design of a module in place
pub record DrivesBelow (table : List LeafDeclared) (m : LeafModule) (hs : List PlacedModule) (first low high : ℕ) (whole : LeafBlock) (level : ℕ) : Type 0 where
  pub region : (x : ℕ) → drives_any x whole ≡ true → InRegion m first low high x
  pub found : (x : ℕ) → drives_any x whole ≡ true → Driver table hs x
  pub member : (h : PlacedModule) → In hs h → Member table whole level (InRegion m first low high) h

moved_member : (table : List LeafDeclared) (b : LeafBlock) (level : ℕ) (W V : ℕ → Type 0) (h : PlacedModule) → ((x : ℕ) → W x → V x)
    → Member table b level W h → Member table b level V h
moved_member table b level W V h f p = record {
  numbers = p.numbers;
  whens = p.whens;
  deep = p.deep;
  stands = p.stands;
  placed = p.placed;
  only = p.only;
  agrees = λ y lt e. let both = p.agrees y lt e in (both.0, f (number p.numbers y) both.1);
}

-- what one of two drives, both do
one_of : (y : ℕ) (s : over.LeafStatement) (b : LeafBlock) → drives_any y (over.then s over.done) ≡ true → drives_any y (over.then s b) ≡ true
one_of y s b q = by (drives y s) q
  where
    by : (a : Bool) → (a || false) ≡ true → (a || drives_any y b) ≡ true
    by true e = refl
    by false e = absurd (cc)

later_of : (y : ℕ) (s : over.LeafStatement) (b : LeafBlock) → drives_any y b ≡ true → drives_any y (over.then s b) ≡ true
later_of y s b q = right_true (drives y s) (drives_any y b) q

module _ (circuit : CircuitTree) (names : HasNames circuit) (scenes : List Scene) (are : AreScenes circuit scenes) (table : List LeafDeclared)
    (only : (s : Scene) → In scenes s → (y : ℕ) → y < length (module_leaves s) → drives_any y (leafed_module s).body ≡ true
    → may_drive (role_at (leafed_module s) y) ≡ true)
    (reading : (s : Scene) → In scenes s → AreReading (leafed_module s) (leafed_module s).body)
    (turned : (s : Scene) → In scenes s → (h : Held) → In (all_held_in 0 (leafed_module s).body) h → (child : Scene)
    → slice_get scenes h.own.module_number ≡ Some child → (z : ℕ) → z < (leafed_module child).port_leaves
    → IsTurned (leafed_module s) (leafed_module child) h.own z) where
  -- the instances of a part of a module
  abbrev AreTurned : Scene → List Held → Type 0
  AreTurned s hs =
      (h : Held) → In hs h → (child : Scene) → slice_get scenes h.own.module_number ≡ Some child → (z : ℕ) → z < (leafed_module child).port_leaves
      → IsTurned (leafed_module s) (leafed_module child) h.own z

  abbrev pub BelowDrives : Design → SourceDesign → Type 0
  BelowDrives (made_of m is) t =
      (path : LeafPath) (k first free array : ℕ) → Stands table (numbering m first free) path k m → m.port_leaves ≤ length m.leaves
      → first + m.port_leaves ≤ free → AreWired m 0 is → AreNamedItems m is → Distinct (all_instances_in is)
      → At table free (leaves_below path k first free array (made_of m is))
      → DrivesBelow table m (modules_of_design path t) first free (free + count_below (made_of m is)) (flat_below first free (made_of m is)) k

  module _ (s : Scene) (path : LeafPath) (n : Numbering) (k0 : ℕ) (st : Stands table n path k0 (leafed_module s)) (first_free : ℕ)
      (room : HasRoom n (leafed_module s) first_free) where
    one_instance : (k level free : ℕ) (y : HeldInstance) (v : LeafModule) (is : Items) (e : NamedTree) → (child : Scene) → v ≡ leafed_module child
        → (held : IsWired (leafed_module s) k (instance y (made_of v is)))
        → ((z : ℕ) → z < (leafed_module child).port_leaves → IsTurned (leafed_module s) (leafed_module child) y z)
        → DrivesBelow table v (modules_of_design (path ++ named e.name ∷ []) e.tree) (number n y.first) free (free + count_below (made_of v is))
        (flat_below (number n y.first) free (made_of v is)) level
        → Drives table n (leafed_module s) path k0 st (y.declaration ∷ []) free (free + count_below (made_of v is)) (e ∷ [])
        (flat_below (number n y.first) free (made_of v is)) level (over.then (over.instance y) over.done) k
    one_instance k level free y v is e child view held turns below =
        let m = leafed_module s in
        let high = free + count_below (made_of v is) in
        let inside : (x : ℕ) → InRegion v (number n y.first) free high x → IsInst n m (y.declaration ∷ []) free high x =
        λ x r.
        ⊎_elim
        (λ (p : (z : ℕ) × (z < v.port_leaves) × (number n y.first + z ≡ x) × (may_drive (role_at v z) ≡ true)).
        let lt : p.0 < (leafed_module child).port_leaves = subst (λ (u : LeafModule). p.0 < u.port_leaves) view p.1 in
        let t = turns p.0 lt in
        let may : may_drive (role_at (leafed_module child) p.0) ≡ true = subst (λ (u : LeafModule). may_drive (role_at u p.0) ≡ true) view p.3 in
        inl (record {
          leaf = y.first + p.0;
          own = omega (arith, held.0.own);
          within = omega (arith, held.0.within, p.1);
          is = sym (number_more n y.first p.0 (λ low. absurd (omega (arith, low, room.ports, held.0.own)))) ∙ p.2;
          among = inl (sym t.declaration);
          given = t.turned ∙ ap not may;
        }))
        (λ (r : (free ≤ x) × (x < high)). inr r) r in
        let trees : (h : PlacedModule) → In (modules_of_design (path ++ named e.name ∷ []) e.tree) h → In (modules_of_trees path (e ∷ [])) h =
        λ h i. in_left (modules_of_design (path ++ named e.name ∷ []) e.tree) [] h i in
        record {
          parts = λ x d.
              inr (
                inside x (below.region x d),
                driver_within table (modules_of_design (path ++ named e.name ∷ []) e.tree) (modules_of_trees path (e ∷ [])) x trees (below.found x d),
              );
          drives = λ z lt d. absurd (cc);
          moved = λ z lt none.
              let x = number n z in
              let q = quiet (leaf_at table x).depth x (flat_below (number n y.first) free (made_of v is)) level
              (not_true (drives_any x (flat_below (number n y.first) free (made_of v is))) (λ d. none (inside x (below.region x d)))) in
              record { lives = q.lives; covers = q.covers };
          driver = λ z lt none.
              quiet_moves n m z (depths table (number n z)) (depth_at m z) (flat_below (number n y.first) free (made_of v is)) level y k
              (not_true (drives_any (number n z) (flat_below (number n y.first) free (made_of v is)))
              (λ d. none (inside (number n z) (below.region (number n z) d))));
          member = λ h i.
              ⊎_elim
              (λ (j : In (modules_of_design (path ++ named e.name ∷ []) e.tree) h).
              moved_member table (flat_below (number n y.first) free (made_of v is)) level (InRegion v (number n y.first) free high)
              (IsInst n m (y.declaration ∷ []) free high) h inside (below.member h j))
              (λ (j : ⊥). absurd j) (in_either (modules_of_design (path ++ named e.name ∷ []) e.tree) [] h i);
        }

  module _ (s : Scene) (trees : source.Instances) (path : LeafPath) (k first free : ℕ) (is : Items)
      (st : Stands table (numbering (leafed_module s) first free) path k (leafed_module s))
      (room : HasRoom (numbering (leafed_module s) first free) (leafed_module s) (free + length (inner_leaves (leafed_module s))))
      (placed : (x : ℕ) → (leafed_module s).port_leaves ≤ x → x < length (module_leaves s)
      → (array : ℕ) × (leaf_at table (number (numbering (leafed_module s) first free) x)
      ≡ placed_leaf path k (numbering (leafed_module s) first free) array (leaf_at (module_leaves s) x)))
      (body : block_of is ≡ (leafed_module s).body)
      (may : MayDrive table (numbering (leafed_module s) first free) (leafed_module s) path k st (block_of is))
      (all : Drives table (numbering (leafed_module s) first free) (leafed_module s) path k st (all_instances_in is)
      (free + length (inner_leaves (leafed_module s))) ((free + length (inner_leaves (leafed_module s))) + count_all is) (trees_in trees)
      (flat_below first free (made_of (leafed_module s) is)) k (block_of is) 0) where
    abbrev m : LeafModule
    m = leafed_module s

    abbrev n : Numbering
    n = numbering (leafed_module s) first free

    abbrev low : ℕ
    low = free + length (inner_leaves (leafed_module s))

    abbrev high : ℕ
    high = (free + length (inner_leaves (leafed_module s))) + count_all is

    abbrev top : ℕ
    top = free + count_below (made_of (leafed_module s) is)

    abbrev whole : LeafBlock
    whole = flat_below first free (made_of (leafed_module s) is)

    leaf_region : (y : ℕ) → y < length m.leaves → may_drive (role_at m y) ≡ true → InRegion m first free top (number n y)
    leaf_region y within driven = by (nat_lt y m.port_leaves) refl
      where
        by : (b : Bool) → nat_lt y m.port_leaves ≡ b → InRegion m first free top (number n y)
        by true e = let lt = ltb-true y m.port_leaves e in inl (y, lt, sym (number_port n y lt), driven)
        by false e =
            let le = ltb-false y m.port_leaves e in
            let counted : length (inner_leaves m) ≡ length m.leaves - m.port_leaves = length-drop m.port_leaves m.leaves in
            inr (omega (arith, number_own n y le), omega (arith, number_own n y le, within, le, counted))

    own_region : (x : ℕ) → OwnDrives n m (block_of is) x → InRegion m first free top x
    own_region x o = subst (InRegion m first free top) o.is (leaf_region o.leaf o.within (may o.leaf o.within o.drives))

    inst_region : (x : ℕ) → IsInst n m (all_instances_in is) low high x → InRegion m first free top x
    inst_region x (inl p) =
        let counted : length (inner_leaves m) ≡ length m.leaves - m.port_leaves = length-drop m.port_leaves m.leaves in
        inr (omega (arith, number_own n p.leaf p.own, p.is), omega (arith, number_own n p.leaf p.own, p.is, p.within, p.own, counted))
    inst_region x (inr r) = inr (omega (arith, r.0), omega (arith, r.1))

    own_driver : (x : ℕ) → OwnDrives n m (block_of is) x → Driver table (modules_of_design path (source.made_of s trees)) x
    own_driver x o = record {
      holder = record { at = path; scene = s };
      among = inl refl;
      leaf = o.leaf;
      within = o.within;
      path = ap (λ z. (leaf_at table z).path) (sym o.is) ∙ st.path o.leaf o.within;
      drives = ap (drives_any o.leaf) (sym body) ∙ o.drives;
    }

    own_member : Member table whole k (InRegion m first free top) (record { at = path; scene = s })
    own_member = record {
      numbers = n;
      whens = k;
      deep = omega arith;
      stands = st;
      placed = placed;
      only = λ y lt e. may y lt (ap (drives_any y) body ∙ e);
      agrees = λ y lt e.
          let apart = own_apart n m low room (all_instances_in is) low high y lt e (omega arith) in
          let still = all.moved y lt apart in (
            record {
              drives = λ d. all.drives y lt (ap (drives_any y) body ∙ d);
              lives = still.lives ∙ ap (λ b. map (moved_live n) (lives_all (depth_at m y) y b 0)) body;
              covers = still.covers ∙ ap (λ b. covers_all (depth_at m y) y b 0) body;
              driver = subst (λ b. DriverMoves n m y (depths table (number n y)) whole k (depth_at m y) b 0) body (all.driver y lt apart);
            },
            leaf_region y lt e,
          );
    }

    made_drives : DrivesBelow table (leafed_module s) (modules_of_design path (source.made_of s trees)) first free
        (free + count_below (made_of (leafed_module s) is)) (flat_below first free (made_of (leafed_module s) is)) k
    made_drives = record {
      region = λ x d.
          ⊎_elim (λ (o : OwnDrives n m (block_of is) x). own_region x o)
          (λ (j : IsInst n m (all_instances_in is) low high x × Driver table (modules_of_trees path (trees_in trees)) x). inst_region x j.0) (all.parts x d);
      found = λ x d.
          ⊎_elim (λ (o : OwnDrives n m (block_of is) x). own_driver x o)
          (λ (j : IsInst n m (all_instances_in is) low high x × Driver table (modules_of_trees path (trees_in trees)) x).
          driver_within table (modules_of_trees path (trees_in trees)) (modules_of_design path (source.made_of s trees)) x
          (λ h i. inr (subst (λ hs. In hs h) (modules_by_trees path trees) i)) j.1) (all.parts x d);
      member = λ h i.
          ⊎_elim (λ (e : record { at = path; scene = s } ≡ h). subst (Member table whole k (InRegion m first free top)) e own_member)
          (λ (j : In (modules_of_instances path trees) h).
          moved_member table whole k (IsInst n m (all_instances_in is) low high) (InRegion m first free top) h inst_region
          (all.member h (subst (λ hs. In hs h) (sym (modules_by_trees path trees)) j))) i;
    }

  abbrev Rising : (s : Scene) (path : LeafPath) (n : Numbering) (k0 : ℕ) → Stands table n path k0 (leafed_module s) → (d k free : ℕ) (es : List NamedTree) (ds : List ℕ)
      (long : ℕ) → LeafBlock → LeafBlock → Type 0
  Rising s path n k0 st d k free es ds long whole own = Drives table n (leafed_module s) path k0 st ds free (free + long) es whole d own k

  mutual
    item_drives : (x : Item) (s : Scene) (path : LeafPath) (n : Numbering) (k0 k d free array first_free : ℕ) (es : List NamedTree)
        (st : Stands table n path k0 (leafed_module s)) → HasRoom n (leafed_module s) first_free → first_free ≤ free → d ≡ k0 + k
        → IsItemIn (views scenes) x → IsWired (leafed_module s) k x → IsNamedItem (leafed_module s) x → Distinct (instances_in x)
        → IsReading (leafed_module s) (statement_of x) → MayDrive table n (leafed_module s) path k0 st (over.then (statement_of x) over.done)
        → AreTurned s (held_in k (statement_of x))
        → At table free (leaves_in path d (leafed_module s) n free array x) → AreInStep (IsTreeOf scenes s) (held_in k (statement_of x)) es
        → Rising s path n k0 st d k free es (instances_in x) (count x) (flat n free x) (over.then (statement_of x) over.done)
    item_drives (drive p b ps t) s path n k0 k d free array first_free [] st room le e i w called once reads may turns at h =
        let none : free + 0 ≡ free = omega arith in
        subst (λ high. Drives table n (leafed_module s) path k0 st [] free high [] (flat n free (drive p b ps t)) d
        (over.then (over.drive p b ps t) over.done) k) (sym none)
        (one_drive table n (leafed_module s) path k0 st first_free room free d k p b ps t reads.0 reads.1 reads.2)
    item_drives (drive p b ps t) s path n k0 k d free array first_free (x ∷ es) st room le e i w called once reads may turns at h = absurd h
    item_drives (when p t a b) s path n k0 k d free array first_free es st room le e i w called once reads may turns at h =
        let m = leafed_module s in
        let one = all_leaves_in path (d + 1) m n free array a in
        let two = all_leaves_in path (d + 1) m n (free + count_all a) (array + array_count_all a) b in
        let parts = step_parts (IsTreeOf scenes s) (all_held_in (k + 1) (block_of a)) (all_held_in (k + 1) (block_of b)) es h in
        let deep : d + 1 ≡ k0 + (k + 1) = omega (arith, e) in
        let ds = all_instances_in a in
        let fs = all_instances_in b in
        let may_first : MayDrive table n m path k0 st (block_of a) =
        λ y lt q. may y lt (left_true (drives_any y (block_of a) || drives_any y (block_of b)) false (left_true (drives_any y (block_of a)) (drives_any y (block_of b)) q)) in
        let may_second : MayDrive table n m path k0 st (block_of b) =
        λ y lt q. may y lt (left_true (drives_any y (block_of a) || drives_any y (block_of b)) false (right_true (drives_any y (block_of a)) (drives_any y (block_of b)) q)) in
        let first = items_drives a s path n k0 (k + 1) (d + 1) free array first_free parts.0 st room le deep i.0 w.1 called.0
        (distinct_left ds fs once) reads.1 may_first
        (λ q j. turns q (in_left (all_held_in (k + 1) (block_of a)) (all_held_in (k + 1) (block_of b)) q j)) (at_left table one two free at) parts.3 in
        let second = items_drives b s path n k0 (k + 1) (d + 1) (free + count_all a) (array + array_count_all a) first_free parts.1 st room (omega (arith, le)) deep
        i.1 w.2 called.1 (distinct_right ds fs once) reads.2 may_second
        (λ q j. turns q (in_right (all_held_in (k + 1) (block_of a)) (all_held_in (k + 1) (block_of b)) q j))
        (rw (counts_are path (d + 1) m n free array a) at (at_right table one two free at)) parts.4 in
        let far : (free + count_all a) + count_all b ≡ free + (count_all a + count_all b) = omega arith in
        subst (λ high. Drives table n m path k0 st (ds ++ fs) free high es (flat n free (when p t a b)) d (over.then (over.when p t (block_of a) (block_of b)) over.done) k)
        far
        (subst (λ gs. Drives table n m path k0 st (ds ++ fs) free ((free + count_all a) + count_all b) gs (flat n free (when p t a b)) d
        (over.then (over.when p t (block_of a) (block_of b)) over.done) k) (sym parts.2)
        (when_drives table n m path k0 st first_free room ds fs free (free + count_all a) ((free + count_all a) + count_all b) parts.0 parts.1 p t
        (flat_all n free a) (flat_all n (free + count_all a) b) d (block_of a) (block_of b) k once le (omega arith) (omega arith) may_first may_second first second e reads.0))
    item_drives (instance y d') s path n k0 k d free array first_free [] st room le e i w called once reads may turns at h = absurd h
    item_drives (instance y d') s path n k0 k d free array first_free (x ∷ z ∷ es) st room le e i w called once reads may turns at h = absurd h.1
    item_drives (instance y (made_of v is)) s path n k0 k d free array first_free (x ∷ []) st room le e i w called once reads may turns at h =
        let m = leafed_module s in
        let t : IsTreeOf scenes s (record { depth = k; own = y }) x = h.0 in
        let below = instance_path path m y in
        let deep = λ (z : ℕ). At table free (leaves_below below z (number n y.first) free array (made_of v is)) in
        let found = subst (λ u. IsDesignOf (views scenes) u (made_of v is)) (view_at scenes y.module_number t.child t.at) i in
        let stand : Stands table (numbering v (number n y.first) free) below d v =
        subst (λ z. Stands table (numbering v (number n y.first) free) below z v) (sym e)
        (held_stands table path k0 k free array n m v y _ st w.0 (subst deep e at)) in
        let more : number n y.first ≡ n.own + (y.first - n.ports) = number_own n y.first (omega (arith, room.ports, w.0.own)) in
        let inside : number n y.first + v.port_leaves ≤ free = omega (arith, more, room.ports, room.before, room.long, w.0.own, w.0.within, le) in
        let drives = design_drives (made_of v is) t.child x.tree (get_in scenes y.module_number t.child t.at) found t.is below d (number n y.first) free array stand
        w.0.ports inside w.1 called.3 called.2 at in
        one_instance s path n k0 st first_free room k d free y v is x t.child found.0 w
        (turns (record { depth = k; own = y }) (inl refl) t.child t.at)
        (subst (λ name. DrivesBelow table v (modules_of_design (path ++ named name ∷ []) x.tree) (number n y.first) free (free + count_below (made_of v is))
        (flat_below (number n y.first) free (made_of v is)) d) t.name drives)

    items_drives : (xs : Items) (s : Scene) (path : LeafPath) (n : Numbering) (k0 k d free array first_free : ℕ) (es : List NamedTree)
        (st : Stands table n path k0 (leafed_module s)) → HasRoom n (leafed_module s) first_free → first_free ≤ free → d ≡ k0 + k
        → AreItemsIn (views scenes) xs → AreWired (leafed_module s) k xs → AreNamedItems (leafed_module s) xs → Distinct (all_instances_in xs)
        → AreReading (leafed_module s) (block_of xs) → MayDrive table n (leafed_module s) path k0 st (block_of xs) → AreTurned s (all_held_in k (block_of xs))
        → At table free (all_leaves_in path d (leafed_module s) n free array xs) → AreInStep (IsTreeOf scenes s) (all_held_in k (block_of xs)) es
        → Rising s path n k0 st d k free es (all_instances_in xs) (count_all xs) (flat_all n free xs) (block_of xs)
    items_drives done s path n k0 k d free array first_free [] st room le e i w called once reads may turns at h =
        let none : free + 0 ≡ free = omega arith in
        subst (λ high. Drives table n (leafed_module s) path k0 st [] free high [] over.done d over.done k) (sym none)
        (no_statements table n (leafed_module s) path k0 st free d k)
    items_drives done s path n k0 k d free array first_free (x ∷ es) st room le e i w called once reads may turns at h = absurd h
    items_drives ((then) x xs) s path n k0 k d free array first_free es st room le e i w called once reads may turns at h =
        let m = leafed_module s in
        let one = leaves_in path d m n free array x in
        let two = all_leaves_in path d m n (free + count x) (array + array_count x) xs in
        let parts = step_parts (IsTreeOf scenes s) (held_in k (statement_of x)) (all_held_in k (block_of xs)) es h in
        let ds = instances_in x in
        let fs = all_instances_in xs in
        let own = over.then (statement_of x) over.done in
        let may_first : MayDrive table n m path k0 st (over.then (statement_of x) over.done) =
        λ y lt q. may y lt (one_of y (statement_of x) (block_of xs) q) in
        let may_second : MayDrive table n m path k0 st (block_of xs) =
        λ y lt q. may y lt (later_of y (statement_of x) (block_of xs) q) in
        let first = item_drives x s path n k0 k d free array first_free parts.0 st room le e i.0 w.0 called.0 (distinct_left ds fs once) reads.0 may_first
        (λ q j. turns q (in_left (held_in k (statement_of x)) (all_held_in k (block_of xs)) q j)) (at_left table one two free at) parts.3 in
        let second = items_drives xs s path n k0 k d (free + count x) (array + array_count x) first_free parts.1 st room (omega (arith, le)) e i.1 w.1 called.1
        (distinct_right ds fs once) reads.1 may_second
        (λ q j. turns q (in_right (held_in k (statement_of x)) (all_held_in k (block_of xs)) q j))
        (rw (count_is path d m n free array x) at (at_right table one two free at)) parts.4 in
        let far : (free + count x) + count_all xs ≡ free + (count x + count_all xs) = omega arith in
        subst (λ high. Drives table n m path k0 st (ds ++ fs) free high es (flat_all n free ((then) x xs)) d (block_of ((then) x xs)) k) far
        (subst (λ gs. Drives table n m path k0 st (ds ++ fs) free ((free + count x) + count_all xs) gs (flat_all n free ((then) x xs)) d
        (block_of ((then) x xs)) k) (sym parts.2)
        (joined_drives table n m path k0 st first_free room ds fs free (free + count x) ((free + count x) + count_all xs) parts.0 parts.1
        (flat n free x) (flat_all n (free + count x) xs) d own (block_of xs) k once le (omega arith) (omega arith) may_first may_second first second))

    pub design_drives : (d : Design) (s : Scene) (t : SourceDesign) → In scenes s → IsDesignOf (views scenes) (leafed_module s) d
        → IsSourceDesignOf scenes s t → BelowDrives d t
    design_drives (made_of v is) s (source.made_of u trees) i e h =
        subst (λ m. BelowDrives (made_of m is) (source.made_of u trees)) (sym e.0)
        (subst (λ z. BelowDrives (made_of (leafed_module s) is) (source.made_of z trees)) (sym h.0)
        (λ path k first free array st long before w called once at.
        let m = leafed_module s in
        let n = numbering m first free in
        let own = length (inner_leaves m) in
        let counted : own ≡ length m.leaves - m.port_leaves = length-drop m.port_leaves m.leaves in
        let room : HasRoom n m (free + own) = record { ports = refl; long = long; first = before; before = omega (arith, counted) } in
        let body : block_of is ≡ m.body = e.1 in
        let may : MayDrive table n m path k st (block_of is) = λ y lt q. only s i y lt (ap (drives_any y) (sym body) ∙ q) in
        let beside = trees_of_module scenes s circuit names (scene_own circuit scenes are s i) trees h.1 in
        let all = items_drives is s path n k 0 k (free + own) (array + length m.arrays) (free + own) (trees_in trees) st room (omega arith) (omega arith) e.2 w
        called once (subst (AreReading m) (sym body) (reading s i)) may (λ q j. turned s i q (subst (λ b. In (all_held_in 0 b) q) body j))
        (inner_at table path k first free array m is at)
        (subst (λ b. AreInStep (IsTreeOf scenes s) (all_held_in 0 b) (trees_in trees)) (sym body) beside) in
        let rest = all_leaves_in path k m n (free + own) (array + length m.arrays) is in
        let placed : (x : ℕ) → m.port_leaves ≤ x → x < length (module_leaves s)
        → (z : ℕ) × (leaf_at table (number n x) ≡ placed_leaf path k n z (leaf_at (module_leaves s) x)) =
        λ x le lt. (array, ap (leaf_at table) (number_own n x le) ∙ (placed_at table path k first free array m rest x at le lt).1) in
        made_drives s trees path k first free is st room placed body may all))
