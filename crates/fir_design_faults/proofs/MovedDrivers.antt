-- What drives a leaf in blocks over leaves: behind one another, where some drive nothing, and where all are moved.
use Rattle.std.proofs.Common.{◌≡◌, ℕ, ◌+◌, ◌<◌, ◌≤◌, List, [], ◌∷◌, map, length, Bool, true, false, ◌||◌, nat_eq, nat_lt, if◌then◌else◌, Option, Some, None, refl, sym, ap, ◌∙◌, subst}
use Rattle.std.proofs.lemmas.Bool.{lt-ltb, or_parts}
use Rattle.fir_ast.specs.declared.place.Place.{Place}
use Rattle.fir_meaning.specs.working.LeafBlocks.{LeafBlock, LeafStatement, HeldInstance, done, drive, instance, joined, then, when}
use Rattle.fir_meaning.specs.working.LeafModules.{LeafModule}
use Rattle.fir_meaning.specs.working.Numberings.{Numbering, moved, moved_picks, number}
use Rattle.fir_meaning.specs.working.TermReads.{is_among, reached}
use Rattle.fir_meaning.specs.working.TermValues.{Holds}
use Rattle.fir_meaning.specs.working.Terms.{Term, zeros, absent, literal, read, operation, mux, validif, Picks, no_picks, pick}
use Rattle.fir_meaning.specs.working.UndrivenChoices.{drives, drives_any}
use Rattle.fir_leaf.specs.working.SoundDesigns.{IsRead}
use Rattle.fir_connect.specs.working.Drivers.{driven_by, driver, driver_all, driver_of, given, start, through}
use Rattle.fir_connect.specs.working.Lowered.{Candidate, candidates, conditions, lowered}
use Rattle.fir_connect.specs.working.MovedTerms.{renumbered}
use Rattle.fir_connect.specs.working.NetTerms.{NetTerm, choice, term_type}
use Rattle.fir_design_faults.proofs.AllTerms.{AllPicksIn, AllTermIn}
use Rattle.fir_design_faults.proofs.OwnNumbers.{same_number}
use Rattle.fir_design_faults.proofs.RenumberedTerms.{HaveTypes, IsRenumbered, candidates_moved, choice_renumbered, lowered_moved, moved_candidate, zero_renumbered}

module _ (holds : Holds) (depth x : ℕ) where
  pub driver_joined : (a b : LeafBlock) (k : ℕ) (old : NetTerm)
      → driver_all holds depth x (joined a b) k old ≡ driver_all holds depth x b k (driver_all holds depth x a k old)
  driver_joined done b k old = refl
  driver_joined ((then) s a) b k old = driver_joined a b k (driver holds depth x s k old)

  -- where nothing drives the leaf, what stood before is left
  through_quiet : (xs : List ℕ) (cs : List (Option NetTerm)) (e old : NetTerm) → is_among xs x ≡ false → through holds depth x (candidates xs cs) e old ≡ old
  through_quiet [] cs e old none = refl
  through_quiet (y ∷ xs) [] e old none = refl
  through_quiet (y ∷ xs) (None ∷ cs) e old none = refl
  through_quiet (y ∷ xs) (Some c ∷ cs) e old none =
      let parts = or_parts (nat_eq y x) (is_among xs x) none in
      ap (λ (b : Bool). through holds depth x (candidates xs cs) e (if b then choice holds c e old else old)) parts.0 ∙ through_quiet xs cs e old parts.1

  either_quiet : (early some : Bool) (c first second after old : NetTerm) → some ≡ false → after ≡ old
      → (if early then after else if some then choice holds c first second else old) ≡ old
  either_quiet true some c first second after old none e = e
  either_quiet false some c first second after old none e = ap (λ (b : Bool). if b then choice holds c first second else old) none

  mutual
    quiet_statement : (s : LeafStatement) (k : ℕ) (old : NetTerm) → drives x s ≡ false → driver holds depth x s k old ≡ old
    quiet_statement (drive p b no_picks t) k old none =
        ap (λ (here : Bool). if here then given holds x t else old) (or_parts (nat_eq b x) false none).0
    quiet_statement (drive p b (pick ps q i n each) t) k old none =
        through_quiet (reached b (pick ps q i n each)) (conditions holds (pick ps q i n each)) (given holds x t) old none
    quiet_statement (when p c a b) k old none =
        let parts = or_parts (drives_any x a) (drives_any x b) none in
        let first = driver_all holds depth x a (k + 1) old in
        either_quiet (nat_lt k depth) (drives_any x a || drives_any x b) (lowered holds c) first (driver_all holds depth x b (k + 1) old)
        (driver_all holds depth x b (k + 1) first) old none
        (quiet_driver b (k + 1) first parts.1 ∙ quiet_driver a (k + 1) old parts.0)
    quiet_statement (instance i) k old none = refl

    pub quiet_driver : (b : LeafBlock) (k : ℕ) (old : NetTerm) → drives_any x b ≡ false → driver_all holds depth x b k old ≡ old
    quiet_driver done k old none = refl
    quiet_driver ((then) s b) k old none =
        let parts = or_parts (drives x s) (drives_any x b) none in
        quiet_driver b k (driver holds depth x s k old) parts.1 ∙ quiet_statement s k old parts.0

  early_when : (early some : Bool) (c first second after : NetTerm) (old : NetTerm) → early ≡ true
      → (if early then after else if some then choice holds c first second else old) ≡ after
  early_when true some c first second after old e = refl
  early_when false some c first second after old e = absurd (cc)

  -- a when that stands round the leaf's declaration
  whole_when : (p : Place) (c : Term) (a b : LeafBlock) (k : ℕ) (old : NetTerm) → k < depth
      → driver_all holds depth x ((then) (when p c a b) done) k old ≡ driver_all holds depth x b (k + 1) (driver_all holds depth x a (k + 1) old)
  whole_when p c a b k old lt =
      let first = driver_all holds depth x a (k + 1) old in
      early_when (nat_lt k depth) (drives_any x a || drives_any x b) (lowered holds c) first (driver_all holds depth x b (k + 1) old)
      (driver_all holds depth x b (k + 1) first) old (lt-ltb k depth lt)

  pub first_driver_of_when : (p : Place) (c : Term) (a b : LeafBlock) (k : ℕ) (old : NetTerm) → k < depth → drives_any x b ≡ false
      → driver_all holds depth x ((then) (when p c a b) done) k old ≡ driver_all holds depth x a (k + 1) old
  first_driver_of_when p c a b k old lt none = whole_when p c a b k old lt ∙ quiet_driver b (k + 1) (driver_all holds depth x a (k + 1) old) none

  pub second_driver_of_when : (p : Place) (c : Term) (a b : LeafBlock) (k : ℕ) (old : NetTerm) → k < depth → drives_any x a ≡ false
      → driver_all holds depth x ((then) (when p c a b) done) k old ≡ driver_all holds depth x b (k + 1) old
  second_driver_of_when p c a b k old lt none =
      whole_when p c a b k old lt ∙ ap (driver_all holds depth x b (k + 1)) (quiet_driver a (k + 1) old none)

-- a leaf of the module
module _ (n : Numbering) (m : LeafModule) (y : ℕ) where
  -- the block of the whole drives the leaf as the module's block does
  pub record DriverMoves (depth : ℕ) (whole : LeafBlock) (level : ℕ) (inner_depth : ℕ) (own : LeafBlock) (k : ℕ) : Type 0 where
    pub moves :
        (outer inner : Holds) → HaveTypes n m outer inner → (old was : NetTerm) → IsRenumbered n outer inner old was
        → IsRenumbered n outer inner (driver_all outer depth (number n y) whole level old) (driver_all inner inner_depth y own k was)

  module _ (depth inner_depth : ℕ) where
    pub nothing_moves : (level k : ℕ) → DriverMoves depth done level inner_depth done k
    nothing_moves level k = record { moves = λ outer inner same old was r. r }

    pub moves_joined : (a b : LeafBlock) (level : ℕ) (c d : LeafBlock) (k : ℕ) → DriverMoves depth a level inner_depth c k
        → DriverMoves depth b level inner_depth d k → DriverMoves depth (joined a b) level inner_depth (joined c d) k
    moves_joined a b level c d k first second = record {
      moves = λ outer inner same old was r.
          let x = number n y in
          let after = second.moves outer inner same (driver_all outer depth x a level old) (driver_all inner inner_depth y c k was)
          (first.moves outer inner same old was r) in
          subst (λ t. IsRenumbered n outer inner t (driver_all inner inner_depth y (joined c d) k was)) (sym (driver_joined outer depth x a b level old))
          (subst (λ t. IsRenumbered n outer inner (driver_all outer depth x b level (driver_all outer depth x a level old)) t)
          (sym (driver_joined inner inner_depth y c d k was)) after);
    }

    -- of a block that drives as another does
    pub moves_as : (a b : LeafBlock) (level deeper : ℕ) (own : LeafBlock) (k : ℕ)
        → ((outer : Holds) (old : NetTerm) → driver_all outer depth (number n y) b level old ≡ driver_all outer depth (number n y) a deeper old)
        → DriverMoves depth a deeper inner_depth own k → DriverMoves depth b level inner_depth own k
    moves_as a b level deeper own k same_driver d = record {
      moves = λ outer inner same old was r.
          subst (λ t. IsRenumbered n outer inner t (driver_all inner inner_depth y own k was)) (sym (same_driver outer old)) (d.moves outer inner same old was r);
    }

    -- the design of an instance drives none of the module's leaves that this one is
    pub quiet_moves : (whole : LeafBlock) (level : ℕ) (i : HeldInstance) (k : ℕ) → drives_any (number n y) whole ≡ false
        → DriverMoves depth whole level inner_depth ((then) (instance i) done) k
    quiet_moves whole level i k none = record {
      moves = λ outer inner same old was r.
          subst (λ t. IsRenumbered n outer inner t was) (sym (quiet_driver outer depth (number n y) whole level old none)) r;
    }

    pub moves_before_quiet : (a b : LeafBlock) (level : ℕ) (own : LeafBlock) (k : ℕ) → drives_any (number n y) b ≡ false
        → DriverMoves depth a level inner_depth own k → DriverMoves depth (joined a b) level inner_depth own k
    moves_before_quiet a b level own k none =
        moves_as a (joined a b) level level own k
        (λ outer old.
        driver_joined outer depth (number n y) a b level old
        ∙ quiet_driver outer depth (number n y) b level (driver_all outer depth (number n y) a level old) none)

    pub moves_behind_quiet : (a b : LeafBlock) (level : ℕ) (own : LeafBlock) (k : ℕ) → drives_any (number n y) a ≡ false
        → DriverMoves depth b level inner_depth own k → DriverMoves depth (joined a b) level inner_depth own k
    moves_behind_quiet a b level own k none =
        moves_as b (joined a b) level level own k
        (λ outer old.
        driver_joined outer depth (number n y) a b level old
        ∙ ap (driver_all outer depth (number n y) b level) (quiet_driver outer depth (number n y) a level old none))

    pub moves_first : (p : Place) (c : Term) (a b : LeafBlock) (level : ℕ) (own : LeafBlock) (k : ℕ) → level < depth → drives_any (number n y) b ≡ false
        → DriverMoves depth a (level + 1) inner_depth own k → DriverMoves depth ((then) (when p c a b) done) level inner_depth own k
    moves_first p c a b level own k lt none =
        moves_as a ((then) (when p c a b) done) level (level + 1) own k
        (λ outer old. first_driver_of_when outer depth (number n y) p c a b level old lt none)

    pub moves_second : (p : Place) (c : Term) (a b : LeafBlock) (level : ℕ) (own : LeafBlock) (k : ℕ) → level < depth → drives_any (number n y) a ≡ false
        → DriverMoves depth b (level + 1) inner_depth own k → DriverMoves depth ((then) (when p c a b) done) level inner_depth own k
    moves_second p c a b level own k lt none =
        moves_as b ((then) (when p c a b) done) level (level + 1) own k
        (λ outer old. second_driver_of_when outer depth (number n y) p c a b level old lt none)

  module _ (ports : n.ports ≡ m.port_leaves) (depth inner_depth : ℕ) where
    -- a when, where both its blocks drive the leaf as those of the module do
    pub when_moves : (p : Place) (t : Term) (a b : LeafBlock) (level : ℕ) (c d : LeafBlock) (k : ℕ) → AllTermIn m t
        → nat_lt level depth ≡ nat_lt k inner_depth
        → drives_any (number n y) a ≡ drives_any y c → drives_any (number n y) b ≡ drives_any y d
        → DriverMoves depth a (level + 1) inner_depth c (k + 1) → DriverMoves depth b (level + 1) inner_depth d (k + 1)
        → DriverMoves depth ((then) (when p (moved n t) a b) done) level inner_depth ((then) (when p t c d) done) k
    when_moves p t a b level c d k h early some other first second = record {
      moves = λ outer inner same old was r.
          let x = number n y in
          let of_first = first.moves outer inner same old was r in
          let of_second = second.moves outer inner same old was r in
          let after = second.moves outer inner same (driver_all outer depth x a (level + 1) old) (driver_all inner inner_depth y c (k + 1) was) of_first in
          let chosen = choice_renumbered n outer inner (lowered outer (moved n t)) (lowered inner t)
          (driver_all outer depth x a (level + 1) old) (driver_all inner inner_depth y c (k + 1) was)
          (driver_all outer depth x b (level + 1) old) (driver_all inner inner_depth y d (k + 1) was)
          (lowered_moved n outer inner m ports same t h).is of_first of_second in
          by outer inner (nat_lt level depth) (nat_lt k inner_depth) (drives_any x a || drives_any x b) (drives_any y c || drives_any y d)
          (driver_all outer depth x b (level + 1) (driver_all outer depth x a (level + 1) old))
          (choice outer (lowered outer (moved n t)) (driver_all outer depth x a (level + 1) old) (driver_all outer depth x b (level + 1) old)) old
          (driver_all inner inner_depth y d (k + 1) (driver_all inner inner_depth y c (k + 1) was))
          (choice inner (lowered inner t) (driver_all inner inner_depth y c (k + 1) was) (driver_all inner inner_depth y d (k + 1) was)) was
          early (rw (some, other) refl) after chosen r;
    }
      where
        by : (outer inner : Holds) (e f s u : Bool) (o₁ o₂ o₃ i₁ i₂ i₃ : NetTerm) → e ≡ f → s ≡ u → IsRenumbered n outer inner o₁ i₁
            → IsRenumbered n outer inner o₂ i₂ → IsRenumbered n outer inner o₃ i₃
            → IsRenumbered n outer inner (if e then o₁ else if s then o₂ else o₃) (if f then i₁ else if u then i₂ else i₃)
        by outer inner true true s u o₁ o₂ o₃ i₁ i₂ i₃ q r h₁ h₂ h₃ = h₁
        by outer inner false false true true o₁ o₂ o₃ i₁ i₂ i₃ q r h₁ h₂ h₃ = h₂
        by outer inner false false false false o₁ o₂ o₃ i₁ i₂ i₃ q r h₁ h₂ h₃ = h₃
        by outer inner false false true false o₁ o₂ o₃ i₁ i₂ i₃ q r h₁ h₂ h₃ = absurd (cc)
        by outer inner false false false true o₁ o₂ o₃ i₁ i₂ i₃ q r h₁ h₂ h₃ = absurd (cc)
        by outer inner true false s u o₁ o₂ o₃ i₁ i₂ i₃ q r h₁ h₂ h₃ = absurd (cc)
        by outer inner false true s u o₁ o₂ o₃ i₁ i₂ i₃ q r h₁ h₂ h₃ = absurd (cc)

    module _ (first : n.first + n.ports ≤ n.own) (lt : y < length m.leaves) where
      either_moves : (outer inner : Holds) (a b : Bool) (o₁ o₂ i₁ i₂ : NetTerm) → a ≡ b → IsRenumbered n outer inner o₁ i₁ → IsRenumbered n outer inner o₂ i₂
          → IsRenumbered n outer inner (if a then o₁ else o₂) (if b then i₁ else i₂)
      either_moves outer inner true true o₁ o₂ i₁ i₂ e h k = h
      either_moves outer inner false false o₁ o₂ i₁ i₂ e h k = k
      either_moves outer inner true false o₁ o₂ i₁ i₂ e h k = absurd (cc)
      either_moves outer inner false true o₁ o₂ i₁ i₂ e h k = absurd (cc)

      through_moves : (outer inner : Holds) (cs : List Candidate) (e f old was : NetTerm) → IsRenumbered n outer inner e f → IsRenumbered n outer inner old was
          → IsRenumbered n outer inner (through outer depth (number n y) (map (moved_candidate (number n)) cs) e old) (through inner inner_depth y cs f was)
      through_moves outer inner [] e f old was h r = r
      through_moves outer inner (c ∷ cs) e f old was h r =
          let condition = renumbered (number n) c.condition in
          through_moves outer inner cs e f (if nat_eq (number n c.number) (number n y) then choice outer condition e old else old)
          (if nat_eq c.number y then choice inner c.condition f was else was) h
          (either_moves outer inner (nat_eq (number n c.number) (number n y)) (nat_eq c.number y) (choice outer condition e old) old
          (choice inner c.condition f was) was (same_number n first c.number y) (choice_renumbered n outer inner condition c.condition e f old was refl h r) r)

      module _ (outer inner : Holds) (same : HaveTypes n m outer inner) where
        given_moves : (t : Term) → AllTermIn m t → IsRenumbered n outer inner (given outer (number n y) (moved n t)) (given inner y t)
        given_moves zeros h = zero_renumbered n outer inner (outer (number n y)) (inner y) (same y lt)
        given_moves (absent t ps) h = lowered_moved n outer inner m ports same (absent t ps) h
        given_moves (literal l) h = lowered_moved n outer inner m ports same (literal l) h
        given_moves (read b ps) h = lowered_moved n outer inner m ports same (read b ps) h
        given_moves (operation op ts ks) h = lowered_moved n outer inner m ports same (operation op ts ks) h
        given_moves (mux c a b) h = lowered_moved n outer inner m ports same (mux c a b) h
        given_moves (validif c a) h = lowered_moved n outer inner m ports same (validif c a) h

        driven_moves : (b : ℕ) (ps : Picks) (e f old was : NetTerm) → IsRead m b ps → AllPicksIn m ps → IsRenumbered n outer inner e f
            → IsRenumbered n outer inner old was
            → IsRenumbered n outer inner (driven_by outer depth (number n y) (number n b) (moved_picks n ps) e old) (driven_by inner inner_depth y b ps f was)
        driven_moves b no_picks e f old was h k g r =
            either_moves outer inner (nat_eq (number n b) (number n y)) (nat_eq b y) e old f was (same_number n first b y) g r
        driven_moves b (pick ps p i c each) e f old was h k g r =
            let whole = pick ps p i c each in
            subst (λ cs. IsRenumbered n outer inner (through outer depth (number n y) cs e old) (driven_by inner inner_depth y b whole f was))
            (sym (candidates_moved n outer inner m ports same b whole h k))
            (through_moves outer inner (candidates (reached b whole) (conditions inner whole)) e f old was g r)

      -- one statement
      pub drive_moves : (p : Place) (b : ℕ) (ps : Picks) (t : Term) (level k : ℕ) → IsRead m b ps → AllPicksIn m ps → AllTermIn m t
          → DriverMoves depth ((then) (drive p (number n b) (moved_picks n ps) (moved n t)) done) level inner_depth ((then) (drive p b ps t) done) k
      drive_moves p b ps t level k h i j = record {
        moves = λ outer inner same old was r.
            driven_moves outer inner same b ps (given outer (number n y) (moved n t)) (given inner y t) old was h i (given_moves outer inner same t j) r;
      }

  -- what stands before is a term that has in the whole the type that it has in the module
  pub all_moved : (depth level inner_depth k : ℕ) (whole own : LeafBlock) → DriverMoves depth whole level inner_depth own k → (outer inner : Holds)
      → HaveTypes n m outer inner → (old : NetTerm) → term_type outer (renumbered (number n) old) ≡ term_type inner old
      → driver_all outer depth (number n y) whole level (renumbered (number n) old) ≡ renumbered (number n) (driver_all inner inner_depth y own k old)
  all_moved depth level inner_depth k whole own d outer inner same old types =
      (d.moves outer inner same (renumbered (number n) old) old (record { is = refl; types = types })).is

  -- the driver of the leaf
  pub driver_moved : (depth inner_depth : ℕ) (whole own : LeafBlock) → DriverMoves depth whole 0 inner_depth own 0 → y < length m.leaves
      → (outer inner : Holds) → HaveTypes n m outer inner → (is_register : Bool)
      → driver_of outer depth is_register whole (number n y) ≡ renumbered (number n) (driver_of inner inner_depth is_register own y)
  driver_moved depth inner_depth whole own d lt outer inner same is_register =
      (d.moves outer inner same (start outer is_register (number n y)) (start inner is_register y) (starts is_register)).is
    where
      starts : (b : Bool) → IsRenumbered n outer inner (start outer b (number n y)) (start inner b y)
      starts true = record { is = refl; types = same y lt }
      starts false = zero_renumbered n outer inner (outer (number n y)) (inner y) (same y lt)
