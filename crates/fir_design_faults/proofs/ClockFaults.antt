-- Where a leaf circuit and a tree of designs have the same leaves, with the same live statements, they show the same faults of clocks.
use Rattle.std.proofs.Common.{◌≡◌, ◌↔◌, ℕ, ◌+◌, ◌<◌, List, [], ◌∷◌, ◌++◌, flat_map, map, length, take, slice_get, Some, refl, sym, ap, ap₂, ◌∙◌, subst, append_assoc, arith, inl, inr, ⊎_elim}
use Rattle.std.proofs.lemmas.Option.{slice_get_within}
use Rattle.fir_base.specs.Lists.{In}
use Rattle.fir_base.proofs.Elements.{there, get_in, number_of}
use Rattle.fir_base.proofs.Members.{in_flat_map_from}
use Rattle.fir_ast.specs.Faults.{Fault}
use Rattle.fir_ast.specs.declared.place.Place.{Place}
use Rattle.fir_meaning.specs.LeafPaths.{LeafPath, path_text}
use Rattle.fir_meaning.specs.LeafTypes.{LeafType, a_clock, number}
use Rattle.fir_meaning.specs.SourceCircuits.{PlacedLeaf, all_leaves, leaf_path}
use Rattle.fir_meaning.specs.SourceClocks as tree
use Rattle.fir_meaning.specs.SourceClocks.{DrivePicks, IsLiveIn, IsWithin, PicksFor, clock_fault, told_path}
use Rattle.fir_meaning.specs.SourceDependence.{PlacedModule}
use Rattle.fir_meaning.specs.SourceDesigns.{SourceDesign}
use Rattle.fir_meaning.specs.SourceDrives.{Drive, module_drives}
use Rattle.fir_meaning.specs.SourceFacts.{source_depth}
use Rattle.fir_meaning.specs.SourceLoops.{StandsAt}
use Rattle.fir_meaning.specs.working.Choices.{Live}
use Rattle.fir_meaning.specs.working.LeafCircuits.{LeafCircuit, role_of}
use Rattle.fir_meaning.specs.working.LeafModules as role
use Rattle.fir_meaning.specs.working.LeafModules.{leaf_at}
use Rattle.fir_meaning.specs.working.LeafNames.{place_of_leaf}
use Rattle.fir_meaning.specs.working.Numberings.{Numbering}
use Rattle.fir_leaf.specs.working.ClockFaults as numbered
use Rattle.fir_leaf.specs.working.ClockFaults.{clock_path, clock_places, live_places}
use Rattle.fir_leaf.specs.working.ClockRoots.{lives_of}
use Rattle.fir_leaf.specs.working.SoundDesigns.{circuit_path}
use Rattle.fir_design.proofs.InStep.{SameRoleBelow}
use Rattle.fir_design_faults.proofs.ClockMarks.{Marked, last_in}
use Rattle.fir_design_faults.proofs.ClockRoles.{moved_index_places, moved_places, picks_by_number, picks_by_path, role_places, sink_by_number, sink_by_path, source_places}
use Rattle.fir_design_faults.proofs.DrivenLives.{AreLives, HasLives}
use Rattle.fir_design_faults.proofs.FlatLives.{moved_live}
use Rattle.fir_design_faults.proofs.MarkedModules.{next_back, next_of, picked_back, picked_of}

-- the leaf of a number in the tree
pub record IsTreeLeaf (g : LeafCircuit) (x : ℕ) (p : PlacedLeaf) : Type 0 where
  pub path : leaf_path p ≡ circuit_path g x
  pub holds : (leaf_at g.leaves x).holds ≡ p.leaf.holds
  pub role : SameRoleBelow g p.at (role_of g x) p.leaf.role
  pub places : role_places (role_of g x) ≡ source_places p.leaf.role
  pub instances : (leaf_at g.leaves x).instances ≡ length p.at

pub record SameClockLeaves (g : LeafCircuit) (t : SourceDesign) : Type 0 where
  pub many : length g.leaves ≡ length (all_leaves t)
  pub each : (x : ℕ) (p : PlacedLeaf) → slice_get (all_leaves t) x ≡ Some p → IsTreeLeaf g x p
  pub stands : (x : ℕ) → x < length g.leaves → StandsAt t (circuit_path g x) (place_of_leaf g x)
  pub one_place : (x : ℕ) (place : Place) → x < length g.leaves → StandsAt t (circuit_path g x) place → place ≡ place_of_leaf g x
  pub to_module : (x : ℕ) → x < length g.leaves → (l : Live) → In (lives_of g x) l → HasLives g t x
  pub to_whole : (x : ℕ) → x < length g.leaves → (h : PlacedModule) (q : LeafPath) (d : Drive) → IsWithin t h q (circuit_path g x) → IsLiveIn h q d
      → AreLives g t x h q

-- live statements that are moved stand where they stood, and so do their indices
pub lives_places : (n : Numbering) (ls : List Live) → flat_map live_places (map (moved_live n) ls) ≡ flat_map live_places ls
lives_places n [] = refl
lives_places n (l ∷ ls) =
    ap₂ (λ (ps qs : List Place). ps ++ qs)
    (ap₂ (λ (ps qs : List Place). ps ++ qs) (moved_index_places n l.through) (moved_places n l.given)) (lives_places n ls)

pub record AreFirstTwo (n : Numbering) (ls : List Live) (one two : Live) : Type 0 where
  pub first : Live
  pub second : Live
  pub rest : List Live
  pub are : ls ≡ first ∷ second ∷ rest
  pub first_place : one.place ≡ first.place
  pub second_place : two.place ≡ second.place

pub first_two : (n : Numbering) (ls : List Live) (one two : Live) (rest : List Live) → map (moved_live n) ls ≡ one ∷ two ∷ rest → AreFirstTwo n ls one two
first_two n [] one two rest e = absurd (cc)
first_two n (a ∷ []) one two rest e =
    let none : [] ≡ two ∷ rest = cc in
    absurd (cc)
first_two n (a ∷ b ∷ ls) one two rest e =
    let head : moved_live n a ≡ one = cc in
    let next : moved_live n b ≡ two = cc in
    record {
      first = a;
      second = b;
      rest = ls;
      are = refl;
      first_place = ap (λ (l : Live). l.place) (sym head);
      second_place = ap (λ (l : Live). l.place) (sym next);
    }

nothing_in : (ps : List Place) → ((q : Place) → In ps q → ⊥) → ps ≡ []
nothing_in [] h = refl
nothing_in (q ∷ ps) h = absurd (h q (inl refl))

module _ (g : LeafCircuit) (t : SourceDesign) (same : SameClockLeaves g t) where
  -- what is live in a module
  abbrev LiveFor : PlacedModule → LeafPath → Drive → Type 0
  LiveFor h q = IsLiveIn h q

  same_places : (x : ℕ) (h : PlacedModule) (q : LeafPath) (l : AreLives g t x h q) → flat_map live_places (lives_of g x) ≡ flat_map live_places l.inner
  same_places x h q l = ap (flat_map live_places) l.moved ∙ lives_places l.numbers l.inner

  drive_picks : (x : ℕ) → x < length g.leaves → (p : Place) → In (flat_map live_places (lives_of g x)) p → DrivePicks t (circuit_path g x) p
  drive_picks x lt p i =
      let from = in_flat_map_from live_places (lives_of g x) p i in
      let o = same.to_module x lt from.0 from.1 in
      let l = o.lives in
      let to = picked_of o.holder.scene (LiveFor o.holder o.leaf) (module_drives o.holder.scene) l.inner p l.marked
      (subst (λ (ps : List Place). In ps p) (same_places x o.holder o.leaf l) i) in
      record { holder = o.holder; leaf = o.leaf; within = l.within; drive = to.0; live = to.1; among = to.2 }

  drive_picked : (x : ℕ) → x < length g.leaves → (p : Place) → DrivePicks t (circuit_path g x) p → In (flat_map live_places (lives_of g x)) p
  drive_picked x lt p h =
      let s = h.holder.scene in
      let l = same.to_whole x lt h.holder h.leaf h.drive h.within h.live in
      let among = last_in (source_depth s h.leaf) h.leaf h.live.choice (module_drives s) h.drive h.live.last in
      subst (λ (ps : List Place). In ps p) (sym (same_places x h.holder h.leaf l))
      (picked_back s (LiveFor h.holder h.leaf) (module_drives s) l.inner p l.marked h.drive among h.live h.among)

  -- a leaf and its number
  module _ (x : ℕ) (lt : x < length g.leaves) (p : PlacedLeaf) (l : IsTreeLeaf g x p) where
    picks_to : (q : Place) → In (clock_places g x (leaf_at g.leaves x).holds (role_of g x)) q → tree.PicksClock t p q
    picks_to q i =
        subst (λ path. PicksFor t path p.leaf.holds p.leaf.role q) (sym l.path)
        (picks_by_path g p.at t x (circuit_path g x) q p.leaf.holds (role_of g x) p.leaf.role l.role l.places (drive_picks x lt q)
        (subst (λ h. In (clock_places g x h (role_of g x)) q) l.holds i))

    picks_from : (q : Place) → tree.PicksClock t p q → In (clock_places g x (leaf_at g.leaves x).holds (role_of g x)) q
    picks_from q h =
        subst (λ h. In (clock_places g x h (role_of g x)) q) (sym l.holds)
        (picks_by_number g p.at t x (circuit_path g x) q p.leaf.holds (role_of g x) p.leaf.role l.role l.places (drive_picked x lt q)
        (subst (λ path. PicksFor t path p.leaf.holds p.leaf.role q) l.path h))

    -- one path is told, and one place
    path_told : clock_path g x (leaf_at g.leaves x).holds ≡ path_text (told_path t p p.leaf.holds)
    path_told = ap (clock_path g x) l.holds ∙ by p.leaf.holds
      where
        by : (h : LeafType) → clock_path g x h ≡ path_text (told_path t p h)
        by a_clock = ap path_text (sym l.path)
        by (number n) =
            let many : (leaf_at g.leaves x).instances + 1 ≡ length p.at + 1 = ap (λ k. k + 1) l.instances in
            ap path_text (ap₂ take many (sym l.path))

    stands_there : StandsAt t (leaf_path p) (place_of_leaf g x)
    stands_there = subst (λ path. StandsAt t path (place_of_leaf g x)) (sym l.path) (same.stands x lt)

    one_there : (place : Place) → StandsAt t (leaf_path p) place → place ≡ place_of_leaf g x
    one_there place h = same.one_place x place lt (subst (λ path. StandsAt t path place) l.path h)

    pub picked_by_path : (f : Fault) → numbered.ShowsPickedClock g x f → tree.ShowsPickedClock t p f
    picked_by_path f h = record {
      index = h.index;
      picks = picks_to h.index h.first.among;
      none_before = λ other picks. h.first.none_before other (picks_from other picks);
      place = place_of_leaf g x;
      stands = stands_there;
      is = h.is ∙ ap (λ told. clock_fault (place_of_leaf g x) told h.index h.index) path_told;
    }

    pub picked_by_number : (f : Fault) → tree.ShowsPickedClock t p f → numbered.ShowsPickedClock g x f
    picked_by_number f h = record {
      index = h.index;
      first = record { among = picks_from h.index h.picks; none_before = λ q i. h.none_before q (picks_to q i) };
      is = h.is ∙ ap₂ (λ at told. clock_fault at told h.index h.index) (one_there h.place h.stands) (sym path_told);
    }

    -- what picks the clock of a sink
    sink_places : (leaf_at g.leaves x).holds ≡ a_clock → role_of g x ≡ role.sink
        → clock_places g x (leaf_at g.leaves x).holds (role_of g x) ≡ flat_map live_places (lives_of g x)
    sink_places h r = ap₂ (clock_places g x) h r

    pub two_by_path : (f : Fault) → numbered.ShowsTwoLive g x f → tree.ShowsTwoLive t p f
    two_by_path f h =
        let o = same.to_module x lt h.first (subst (λ (ls : List Live). In ls h.first) (sym h.lives) (inl refl)) in
        let s = o.holder.scene in
        let live = LiveFor o.holder o.leaf in
        let ls = first_two o.lives.numbers o.lives.inner h.first h.second h.rest (sym o.lives.moved ∙ h.lives) in
        let own : Marked s (LiveFor o.holder o.leaf) (λ d. LiveFor o.holder o.leaf d → ⊥) (module_drives s) (ls.first ∷ ls.second ∷ ls.rest) =
        subst (Marked s live (λ d. live d → ⊥) (module_drives s)) ls.are o.lives.marked in
        let one = next_of s live (module_drives s) ls.first (ls.second ∷ ls.rest) own in
        let two = next_of s live one.after ls.second ls.rest one.others in
        record {
          is_clock = sym l.holds ∙ h.is_clock;
          is_sink = sink_by_path g p.at (role_of g x) p.leaf.role l.role h.is_sink;
          none_picks = λ place picks.
              subst (λ (ps : List Place). In ps place) (sink_places h.is_clock h.is_sink ∙ h.none_picks) (picks_from place picks);
          holder = o.holder;
          leaf = o.leaf;
          within = subst (IsWithin t o.holder o.leaf) (sym l.path) o.lives.within;
          before = one.before;
          first = one.drive;
          between = two.before;
          second = two.drive;
          after = two.after;
          are = one.are ∙ ap (λ (es : List Drive). one.before ++ one.drive ∷ es) two.are
              ∙ sym (append_assoc one.before (one.drive ∷ two.before) (two.drive ∷ two.after));
          first_live = one.is_live;
          second_live = two.is_live;
          none_before = one.none_before;
          none_between = two.none_before;
          place = place_of_leaf g x;
          stands = stands_there;
          is =
              h.is ∙ ap (λ path. clock_fault (place_of_leaf g x) (path_text path) h.first.place h.second.place) (sym l.path)
              ∙ ap₂ (clock_fault (place_of_leaf g x) (path_text (leaf_path p))) (ls.first_place ∙ one.same.place) (ls.second_place ∙ two.same.place);
        }

    pub two_by_number : (f : Fault) → tree.ShowsTwoLive t p f → numbered.ShowsTwoLive g x f
    two_by_number f h =
        let s = h.holder.scene in
        let live = LiveFor h.holder h.leaf in
        let o = same.to_whole x lt h.holder h.leaf h.first (subst (IsWithin t h.holder h.leaf) l.path h.within) h.first_live in
        let own : Marked s (LiveFor h.holder h.leaf) (λ d. LiveFor h.holder h.leaf d → ⊥) (h.before ++ (h.first ∷ (h.between ++ (h.second ∷ h.after)))) o.inner =
        subst (λ ds. Marked s live (λ d. live d → ⊥) ds o.inner) (h.are ∙ append_assoc h.before (h.first ∷ h.between) (h.second ∷ h.after)) o.marked in
        let one = next_back s live h.before h.first (h.between ++ h.second ∷ h.after) o.inner own h.none_before h.first_live in
        let two = next_back s live h.between h.second h.after one.1 one.4 h.none_between h.second_live in
        let inner : o.inner ≡ one.0 ∷ two.0 ∷ two.1 = one.2 ∙ ap (λ (ls : List Live). one.0 ∷ ls) two.2 in
        let holds = l.holds ∙ h.is_clock in
        let sink = sink_by_number g p.at (role_of g x) p.leaf.role l.role h.is_sink in
        record {
          is_clock = holds;
          is_sink = sink;
          none_picks =
              sym (sink_places holds sink)
              ∙ nothing_in (clock_places g x (leaf_at g.leaves x).holds (role_of g x)) (λ q i. h.none_picks q (picks_to q i));
          first = moved_live o.numbers one.0;
          second = moved_live o.numbers two.0;
          rest = map (moved_live o.numbers) two.1;
          lives = o.moved ∙ ap (map (moved_live o.numbers)) inner;
          is =
              h.is ∙ ap₂ (λ at path. clock_fault at (path_text path) h.first.place h.second.place) (one_there h.place h.stands) l.path
              ∙ ap₂ (clock_fault (place_of_leaf g x) (path_text (circuit_path g x))) (sym one.3.place) (sym two.3.place);
        }

  pub clocks_same : (f : Fault) → numbered.ShowsClockFault g f ↔ tree.ShowsClockFault t f
  clocks_same f = (
    (λ h.
        let p = there (all_leaves t) h.leaf (omega (arith, h.within, same.many)) in
        let l = same.each h.leaf p.0 p.1 in
        record {
          leaf = p.0;
          among = get_in (all_leaves t) h.leaf p.0 p.1;
          shows =
              ⊎_elim (λ (k : numbered.ShowsPickedClock g h.leaf f). inl (picked_by_path h.leaf h.within p.0 l f k))
              (λ (k : numbered.ShowsTwoLive g h.leaf f). inr (two_by_path h.leaf h.within p.0 l f k)) h.shows;
        }),
    (λ h.
        let x = number_of (all_leaves t) h.leaf h.among in
        let lt : x.0 < length g.leaves = omega (arith, slice_get_within (all_leaves t) x.0 h.leaf x.1, same.many) in
        let l = same.each x.0 h.leaf x.1 in
        record {
          leaf = x.0;
          within = lt;
          shows =
              ⊎_elim (λ (k : tree.ShowsPickedClock t h.leaf f). inl (picked_by_number x.0 lt h.leaf l f k))
              (λ (k : tree.ShowsTwoLive t h.leaf f). inr (two_by_number x.0 lt h.leaf l f k)) h.shows;
        }),
  )
