-- Statements of a module with the designs of its instances in place, part by part: what they drive, what is live in them, and what drives leaves in a net.
use Rattle.std.proofs.Common.{◌≡◌, ℕ, ◌+◌, ◌<◌, ◌≤◌, List, [], ◌∷◌, ◌++◌, map, Bool, true, false, ◌||◌, nat_lt, length, refl, sym, ap, ap₂, ◌∙◌, subst, inl, inr, ⊎_elim, arith, ◌⊎◌, append-nil}
use Rattle.std.proofs.lemmas.Bool.{le-ltb, lt-ltb, ltb-false, ltb-true}
use Rattle.std.proofs.lemmas.Grind.{flat_map-append}
use Rattle.fir_base.specs.Lists.{Distinct, In}
use Rattle.fir_base.proofs.Members.{in_either, in_left, in_map_from, in_right}
use Rattle.fir_ast.specs.declared.place.Place.{Place}
use Rattle.fir_meaning.specs.LeafPaths.{LeafPath, named}
use Rattle.fir_meaning.specs.SourceDependence.{PlacedModule, modules_of_design}
use Rattle.fir_meaning.specs.working.Choices.{covers_all, driving, lives_all}
use Rattle.fir_meaning.specs.working.LeafBlocks.{LeafBlock, joined}
use Rattle.fir_meaning.specs.working.LeafBlocks as over
use Rattle.fir_meaning.specs.working.LeafModules.{LeafDeclared, LeafModule, depth_at, may_drive, role_at}
use Rattle.fir_meaning.specs.working.Numberings.{Numbering, moved, moved_picks, number}
use Rattle.fir_meaning.specs.working.TermReads.{is_among, is_picked, reached}
use Rattle.fir_meaning.specs.working.Terms.{Picks, Term}
use Rattle.fir_meaning.specs.working.UndrivenChoices.{drives_any}
use Rattle.fir_leaf.specs.working.SoundDesigns.{IsRead}
use Rattle.fir_leaf.proofs.FlatStores.{depths}
use Rattle.fir_leaf.proofs.MovedTerms.{Stands}
use Rattle.fir_design.proofs.InstanceTrees.{NamedTree}
use Rattle.fir_design_faults.proofs.FlatDrives.{Driver, Member, behind_member, driver_within, either_true, first_member, joined_member, left_true, modules_of_trees, not_true, right_true, second_member}
use Rattle.fir_design_faults.proofs.FlatLives.{AreMoved, covers_joined, lives_joined, moved_drive, moved_joined, moved_live, moved_when}
use Rattle.fir_design_faults.proofs.AllTerms.{AllPicksIn, AllTermIn}
use Rattle.fir_design_faults.proofs.MovedDrivers.{DriverMoves, drive_moves, moves_joined, nothing_moves, when_moves}
use Rattle.fir_design_faults.proofs.MovedReads.{reached_moved, same_picked, within_read}
use Rattle.fir_design_faults.proofs.OwnNumbers.{HasRoom, IsInst, OwnDrives, among_moved, among_there, inst_apart, inst_within, number_once, own_apart}
use Rattle.fir_source_faults.proofs.JoinedChoices.{drives_joined}

pub same_less : (k0 k d : ℕ) → nat_lt (k0 + k) (k0 + d) ≡ nat_lt k d
same_less k0 k d = by (nat_lt k d) refl
  where
    by : (b : Bool) → nat_lt k d ≡ b → nat_lt (k0 + k) (k0 + d) ≡ b
    by true e = lt-ltb (k0 + k) (k0 + d) (let lt = ltb-true k d e in omega (arith, lt))
    by false e = le-ltb (k0 + k) (k0 + d) (let le = ltb-false k d e in omega (arith, le))

module _ (table : List LeafDeclared) (n : Numbering) (m : LeafModule) (path : LeafPath) (k0 : ℕ) (st : Stands table n path k0 m) where
  abbrev pub MayDrive : LeafBlock → Type 0
  MayDrive b = (y : ℕ) → y < length m.leaves → drives_any y b ≡ true → may_drive (role_at m y) ≡ true

  -- statements with the designs of instances, of these declarations, whose own leaves stand from a number to another, beside the statements without
  pub record Drives (ds : List ℕ) (low high : ℕ) (es : List NamedTree) (whole : LeafBlock) (level : ℕ) (own : LeafBlock) (k : ℕ) : Type 0 where
    pub parts :
        (x : ℕ) → drives_any x whole ≡ true → OwnDrives n m own x ⊎ (IsInst n m ds low high x × Driver table (modules_of_trees path es) x)
    pub drives : (y : ℕ) → y < length m.leaves → drives_any y own ≡ true → drives_any (number n y) whole ≡ true
    pub moved :
        (y : ℕ) → y < length m.leaves → (IsInst n m ds low high (number n y) → ⊥)
        → AreMoved n (lives_all (depths table (number n y)) (number n y) whole level) (lives_all (depth_at m y) y own k)
        (covers_all (depths table (number n y)) (number n y) whole level) (covers_all (depth_at m y) y own k)
    pub driver :
        (y : ℕ) → y < length m.leaves → (IsInst n m ds low high (number n y) → ⊥)
        → DriverMoves n m y (depths table (number n y)) whole level (depth_at m y) own k
    pub member : (h : PlacedModule) → In (modules_of_trees path es) h → Member table whole level (IsInst n m ds low high) h

  modules_joined : (es fs : List NamedTree) → modules_of_trees path (es ++ fs) ≡ modules_of_trees path es ++ modules_of_trees path fs
  modules_joined es fs = flat_map-append (λ (e : NamedTree). modules_of_design (path ++ named e.name ∷ []) e.tree) es fs

  pub no_statements : (low level k : ℕ) → Drives [] low low [] over.done level over.done k
  no_statements low level k = record {
    parts = λ x e. absurd (cc);
    drives = λ y lt e. absurd (cc);
    moved = λ y lt none. record { lives = refl; covers = refl };
    driver = λ y lt none. nothing_moves n m y (depths table (number n y)) (depth_at m y) level k;
    member = λ h i. absurd i;
  }

  module _ (first_free : ℕ) (room : HasRoom n m first_free) where
    pub one_drive : (low level k : ℕ) (p : Place) (b : ℕ) (ps : Picks) (t : Term) → IsRead m b ps → AllPicksIn m ps → AllTermIn m t
        → Drives [] low low [] (over.then (over.drive p (number n b) (moved_picks n ps) (moved n t)) over.done) level
        (over.then (over.drive p b ps t) over.done) k
    one_drive low level k p b ps t r inside given =
        let same : (y : ℕ) → is_among (reached (number n b) (moved_picks n ps)) (number n y) ≡ is_among (reached b ps) y =
        λ y. ap (λ zs. is_among zs (number n y)) (reached_moved n m room.ports b ps r) ∙ among_moved n room.first (reached b ps) y in
        record {
          parts = λ x e.
              let at : is_among (map (number n) (reached b ps)) x ≡ true =
              ap (λ zs. is_among zs x) (sym (reached_moved n m room.ports b ps r)) ∙ alone_true (is_among (reached (number n b) (moved_picks n ps)) x) e in
              let z = in_map_from (number n) (reached b ps) x (among_there (map (number n) (reached b ps)) x at) in
              let back : is_among (reached b ps) z.0 ≡ true =
              sym (among_moved n room.first (reached b ps) z.0) ∙ ap (is_among (map (number n) (reached b ps))) z.2 ∙ at in
              inl (record {
                leaf = z.0;
                within = within_read n m room.ports b ps r z.0 z.1;
                is = z.2;
                drives = left_true (is_among (reached b ps) z.0) false back;
              });
          drives = λ y lt e.
              left_true (is_among (reached (number n b) (moved_picks n ps)) (number n y)) false
              (same y ∙ alone_true (is_among (reached b ps) y) e);
          moved = λ y lt none.
              let one = moved_drive n (is_among (reached (number n b) (moved_picks n ps)) (number n y)) (is_among (reached b ps) y)
              (is_picked (moved_picks n ps)) (is_picked ps) (driving p ps t) (same y) (same_picked n ps) in
              record {
                lives = append-nil _ ∙ one.lives ∙ ap (map (moved_live n)) (sym (append-nil _));
                covers = one.covers;
              };
          driver = λ y lt none. drive_moves n m y room.ports (depths table (number n y)) (depth_at m y) room.first lt p b ps t level k r inside given;
          member = λ h i. absurd i;
        }
      where
        alone_true : (a : Bool) → (a || false) ≡ true → a ≡ true
        alone_true true e = refl
        alone_true false e = absurd (cc)

    -- a leaf that no instance drives is driven where the module drives it
    same_driven : (ds : List ℕ) (low high : ℕ) (es : List NamedTree) (whole : LeafBlock) (level : ℕ) (own : LeafBlock) (k : ℕ)
        → Drives ds low high es whole level own k → (y : ℕ) → y < length m.leaves → (IsInst n m ds low high (number n y) → ⊥)
        → drives_any (number n y) whole ≡ drives_any y own
    same_driven ds low high es whole level own k d y lt none = by (drives_any y own) refl
      where
        by : (b : Bool) → drives_any y own ≡ b → drives_any (number n y) whole ≡ b
        by true e = d.drives y lt e
        by false e =
            not_true (drives_any (number n y) whole)
            (λ q.
            ⊎_elim
            (λ (o : OwnDrives n m own (number n y)).
            let same : drives_any y own ≡ true = ap (λ z. drives_any z own) (sym (number_once n room.first o.leaf y o.is)) ∙ o.drives in
            absurd (cc))
            (λ (i : IsInst n m ds low high (number n y) × Driver table (modules_of_trees path es) (number n y)). none i.0) (d.parts (number n y) q))

    module _ (ds fs : List ℕ) (low middle high : ℕ) (es gs : List NamedTree) (a b : LeafBlock) (level : ℕ) (c d : LeafBlock) (k : ℕ)
        (distinct : Distinct (ds ++ fs)) (le : first_free ≤ low) (next : low ≤ middle) (last : middle ≤ high) (may_first : MayDrive c) (may_second : MayDrive d)
        (first : Drives ds low middle es a level c k) (second : Drives fs middle high gs b level d k) where
      in_first : (x : ℕ) → IsInst n m ds low middle x → IsInst n m (ds ++ fs) low high x
      in_first x = inst_within n m ds (ds ++ fs) low high low middle x (λ y i. in_left ds fs y i) (omega arith) last

      in_second : (x : ℕ) → IsInst n m fs middle high x → IsInst n m (ds ++ fs) low high x
      in_second x = inst_within n m fs (ds ++ fs) low high middle high x (λ y i. in_right ds fs y i) next (omega arith)

      -- where instances of the one drive, the other does not
      second_quiet : (x : ℕ) → IsInst n m ds low middle x → drives_any x b ≡ false
      second_quiet x i =
          not_true (drives_any x b)
          (λ e.
          ⊎_elim
          (λ (o : OwnDrives n m d x).
          own_apart n m first_free room ds low middle o.leaf o.within (may_second o.leaf o.within o.drives) le (subst (IsInst n m ds low middle) (sym o.is) i))
          (λ (j : IsInst n m fs middle high x × Driver table (modules_of_trees path gs) x).
          inst_apart n m first_free room ds fs low middle high x distinct le next i j.0) (second.parts x e))

      first_quiet : (x : ℕ) → IsInst n m fs middle high x → drives_any x a ≡ false
      first_quiet x i =
          not_true (drives_any x a)
          (λ e.
          ⊎_elim
          (λ (o : OwnDrives n m c x).
          own_apart n m first_free room fs middle high o.leaf o.within (may_first o.leaf o.within o.drives) (omega (arith, le, next))
          (subst (IsInst n m fs middle high) (sym o.is) i))
          (λ (j : IsInst n m ds low middle x × Driver table (modules_of_trees path es) x).
          inst_apart n m first_free room ds fs low middle high x distinct le next j.0 i) (first.parts x e))

      abbrev Found : LeafBlock → ℕ → Type 0
      Found own x = OwnDrives n m own x ⊎ (IsInst n m (ds ++ fs) low high x × Driver table (modules_of_trees path (es ++ gs)) x)

      found_first : (own : LeafBlock) (x : ℕ) → ((y : ℕ) → drives_any y c ≡ true → drives_any y own ≡ true)
          → OwnDrives n m c x ⊎ (IsInst n m ds low middle x × Driver table (modules_of_trees path es) x) → Found own x
      found_first own x h (inl o) = inl (record { leaf = o.leaf; within = o.within; is = o.is; drives = h o.leaf o.drives })
      found_first own x h (inr i) =
          inr (
            in_first x i.0,
            driver_within table (modules_of_trees path es) (modules_of_trees path (es ++ gs)) x
                (λ q j. subst (λ qs. In qs q) (sym (modules_joined es gs)) (in_left (modules_of_trees path es) (modules_of_trees path gs) q j)) i.1,
          )

      found_second : (own : LeafBlock) (x : ℕ) → ((y : ℕ) → drives_any y d ≡ true → drives_any y own ≡ true)
          → OwnDrives n m d x ⊎ (IsInst n m fs middle high x × Driver table (modules_of_trees path gs) x) → Found own x
      found_second own x h (inl o) = inl (record { leaf = o.leaf; within = o.within; is = o.is; drives = h o.leaf o.drives })
      found_second own x h (inr i) =
          inr (
            in_second x i.0,
            driver_within table (modules_of_trees path gs) (modules_of_trees path (es ++ gs)) x
                (λ q j. subst (λ qs. In qs q) (sym (modules_joined es gs)) (in_right (modules_of_trees path es) (modules_of_trees path gs) q j)) i.1,
          )

      of_trees : (h : PlacedModule) → In (modules_of_trees path (es ++ gs)) h → In (modules_of_trees path es) h ⊎ In (modules_of_trees path gs) h
      of_trees h i = in_either (modules_of_trees path es) (modules_of_trees path gs) h (subst (λ qs. In qs h) (modules_joined es gs) i)

      -- one behind the other
      pub joined_drives : Drives (ds ++ fs) low high (es ++ gs) (joined a b) level (joined c d) k
      joined_drives = record {
        parts = λ x e.
            ⊎_elim
            (λ (p : drives_any x a ≡ true).
            found_first (joined c d) x (λ y q. drives_joined y c d ∙ left_true (drives_any y c) (drives_any y d) q) (first.parts x p))
            (λ (p : drives_any x b ≡ true).
            found_second (joined c d) x (λ y q. drives_joined y c d ∙ right_true (drives_any y c) (drives_any y d) q) (second.parts x p))
            (either_true (drives_any x a) (drives_any x b) (sym (drives_joined x a b) ∙ e));
        drives = λ y lt e.
            let x = number n y in
            drives_joined x a b
            ∙ ⊎_elim (λ (p : drives_any y c ≡ true). left_true (drives_any x a) (drives_any x b) (first.drives y lt p))
            (λ (p : drives_any y d ≡ true). right_true (drives_any x a) (drives_any x b) (second.drives y lt p))
            (either_true (drives_any y c) (drives_any y d) (sym (drives_joined y c d) ∙ e));
        moved = λ y lt none.
            let x = number n y in
            let depth = depths table x in
            let inner = depth_at m y in
            let both = moved_joined n (lives_all depth x a level) (lives_all depth x b level) (lives_all inner y c k) (lives_all inner y d k)
            (covers_all depth x a level) (covers_all depth x b level) (covers_all inner y c k) (covers_all inner y d k)
            (first.moved y lt (λ i. none (in_first x i))) (second.moved y lt (λ i. none (in_second x i))) in
            record {
              lives = lives_joined depth x a b level ∙ both.lives ∙ ap (map (moved_live n)) (sym (lives_joined inner y c d k));
              covers = covers_joined depth x a b level ∙ both.covers ∙ sym (covers_joined inner y c d k);
            };
        driver = λ y lt none.
            moves_joined n m y (depths table (number n y)) (depth_at m y) a b level c d k (first.driver y lt (λ i. none (in_first (number n y) i)))
            (second.driver y lt (λ i. none (in_second (number n y) i)));
        member = λ h i.
            ⊎_elim
            (λ (j : In (modules_of_trees path es) h).
            joined_member table a b level (IsInst n m ds low middle) (IsInst n m (ds ++ fs) low high) h second_quiet in_first (first.member h j))
            (λ (j : In (modules_of_trees path gs) h).
            behind_member table a b level (IsInst n m fs middle high) (IsInst n m (ds ++ fs) low high) h first_quiet in_second (second.member h j))
            (of_trees h i);
      }

    -- the blocks of a when
    module _ (ds fs : List ℕ) (low middle high : ℕ) (es gs : List NamedTree) (p : Place) (t : Term) (a b : LeafBlock) (level : ℕ) (c d : LeafBlock) (k : ℕ)
        (distinct : Distinct (ds ++ fs)) (le : first_free ≤ low) (next : low ≤ middle) (last : middle ≤ high) (may_first : MayDrive c) (may_second : MayDrive d)
        (first : Drives ds low middle es a (level + 1) c (k + 1)) (second : Drives fs middle high gs b (level + 1) d (k + 1)) (round : level ≡ k0 + k)
        (reads : AllTermIn m t) where
      abbrev In_first : (x : ℕ) → IsInst n m ds low middle x → IsInst n m (ds ++ fs) low high x
      In_first = in_first ds fs low middle high es gs a b (level + 1) c d (k + 1) distinct le next last may_first may_second first second

      abbrev In_second : (x : ℕ) → IsInst n m fs middle high x → IsInst n m (ds ++ fs) low high x
      In_second = in_second ds fs low middle high es gs a b (level + 1) c d (k + 1) distinct le next last may_first may_second first second

      abbrev whole : LeafBlock
      whole = over.then (over.when p (moved n t) a b) over.done

      abbrev own : LeafBlock
      own = over.then (over.when p t c d) over.done

      two_true : (e f : Bool) → ((e || f) || false) ≡ true → (e ≡ true) ⊎ (f ≡ true)
      two_true true f h = inl refl
      two_true false true h = inr refl
      two_true false false h = absurd (cc)

      first_of_two : (e f : Bool) → e ≡ true → ((e || f) || false) ≡ true
      first_of_two true f h = refl
      first_of_two false f h = absurd (cc)

      second_of_two : (e f : Bool) → f ≡ true → ((e || f) || false) ≡ true
      second_of_two true f h = refl
      second_of_two false true h = refl
      second_of_two false false h = absurd (cc)

      pub when_drives : Drives (ds ++ fs) low high (es ++ gs) (over.then (over.when p (moved n t) a b) over.done) level
          (over.then (over.when p t c d) over.done) k
      when_drives = record {
        parts = λ x e.
            ⊎_elim
            (λ (q : drives_any x a ≡ true).
            found_first ds fs low middle high es gs a b (level + 1) c d (k + 1) distinct le next last may_first may_second first second own x
            (λ y r. first_of_two (drives_any y c) (drives_any y d) r) (first.parts x q))
            (λ (q : drives_any x b ≡ true).
            found_second ds fs low middle high es gs a b (level + 1) c d (k + 1) distinct le next last may_first may_second first second own x
            (λ y r. second_of_two (drives_any y c) (drives_any y d) r) (second.parts x q))
            (two_true (drives_any x a) (drives_any x b) e);
        drives = λ y lt e.
            let x = number n y in
            ⊎_elim (λ (q : drives_any y c ≡ true). first_of_two (drives_any x a) (drives_any x b) (first.drives y lt q))
            (λ (q : drives_any y d ≡ true). second_of_two (drives_any x a) (drives_any x b) (second.drives y lt q))
            (two_true (drives_any y c) (drives_any y d) e);
        moved = λ y lt none.
            let x = number n y in
            let depth = depths table x in
            let inner = depth_at m y in
            let early : nat_lt level depth ≡ nat_lt k inner = ap₂ nat_lt round (st.depth y lt) ∙ same_less k0 k inner in
            let both = moved_when n (nat_lt level depth) (nat_lt k inner) t (lives_all depth x a (level + 1)) (lives_all depth x b (level + 1))
            (lives_all inner y c (k + 1)) (lives_all inner y d (k + 1)) (covers_all depth x a (level + 1)) (covers_all depth x b (level + 1))
            (covers_all inner y c (k + 1)) (covers_all inner y d (k + 1)) early
            (first.moved y lt (λ i. none (In_first x i))) (second.moved y lt (λ i. none (In_second x i))) in
            record {
              lives = append-nil _ ∙ both.lives ∙ ap (map (moved_live n)) (sym (append-nil _));
              covers = both.covers;
            };
        driver = λ y lt none.
            let not_first = λ (i : IsInst n m ds low middle (number n y)). none (In_first (number n y) i) in
            let not_second = λ (i : IsInst n m fs middle high (number n y)). none (In_second (number n y) i) in
            when_moves n m y room.ports (depths table (number n y)) (depth_at m y) p t a b level c d k reads
            (ap₂ nat_lt round (st.depth y lt) ∙ same_less k0 k (depth_at m y))
            (same_driven ds low middle es a (level + 1) c (k + 1) first y lt not_first) (same_driven fs middle high gs b (level + 1) d (k + 1) second y lt not_second)
            (first.driver y lt not_first) (second.driver y lt not_second);
        member = λ h i.
            ⊎_elim
            (λ (j : In (modules_of_trees path es) h).
            first_member table p (moved n t) a b level (IsInst n m ds low middle) (IsInst n m (ds ++ fs) low high) h
            (second_quiet ds fs low middle high es gs a b (level + 1) c d (k + 1) distinct le next last may_first may_second first second) In_first
            (first.member h j))
            (λ (j : In (modules_of_trees path gs) h).
            second_member table p (moved n t) a b level (IsInst n m fs middle high) (IsInst n m (ds ++ fs) low high) h
            (first_quiet ds fs low middle high es gs a b (level + 1) c d (k + 1) distinct le next last may_first may_second first second) In_second
            (second.member h j))
            (of_trees ds fs low middle high es gs a b (level + 1) c d (k + 1) distinct le next last may_first may_second first second h i);
      }
