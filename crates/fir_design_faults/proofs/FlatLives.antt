-- What is live for a leaf in blocks over leaves: behind one another, where some drive nothing, and where all are moved.
use Rattle.std.proofs.Common.{◌≡◌, ℕ, ◌+◌, ◌<◌, List, [], ◌∷◌, ◌++◌, map, Bool, true, false, ◌&&◌, ◌||◌, not, nat_lt, if◌then◌else◌, refl, sym, ap, ap₂, ◌∙◌, append_assoc, append-nil}
use Rattle.std.proofs.lemmas.Bool.{lt-ltb, or_parts}
use Rattle.fir_ast.specs.declared.place.Place.{Place}
use Rattle.std.proofs.lemmas.List.{map-append}
use Rattle.fir_meaning.specs.working.Choices.{Live, below, covers, covers_all, lives, lives_all, unless}
use Rattle.fir_meaning.specs.working.LeafBlocks.{LeafBlock, LeafStatement, done, drive, instance, joined, then, when}
use Rattle.fir_meaning.specs.working.Numberings.{Numbering, moved, moved_picks}
use Rattle.fir_meaning.specs.working.Terms.{Term}
use Rattle.fir_meaning.specs.working.UndrivenChoices.{drives, drives_any}

-- a live statement over moved numbers
abbrev pub moved_live : Numbering → Live → Live
moved_live n l = record { place = l.place; through = moved_picks n l.through; given = moved n l.given; under = map (moved n) l.under }

or_thrice : (a b c : Bool) → (a || (b || c)) ≡ ((a || b) || c)
or_thrice true b c = refl
or_thrice false b c = refl

unless_thrice : (a b : Bool) (ls ms ns : List Live) → unless (b || a) ls ++ (unless b ms ++ ns) ≡ unless b (unless a ls ++ ms) ++ ns
unless_thrice true true ls ms ns = refl
unless_thrice false true ls ms ns = refl
unless_thrice true false ls ms ns = refl
unless_thrice false false ls ms ns = sym (append_assoc ls ms ns)

or_none : (b : Bool) → b ≡ (b || false)
or_none true = refl
or_none false = refl

unless_none : (b : Bool) → unless b [] ≡ []
unless_none true = refl
unless_none false = refl

unless_moved : (f : Live → Live) (b : Bool) (ls : List Live) → unless b (map f ls) ≡ map f (unless b ls)
unless_moved f true ls = refl
unless_moved f false ls = refl

module _ (depth x : ℕ) where
  pub covers_joined : (a b : LeafBlock) (k : ℕ) → covers_all depth x (joined a b) k ≡ (covers_all depth x b k || covers_all depth x a k)
  covers_joined done b k = or_none (covers_all depth x b k)
  covers_joined ((then) s a) b k =
      ap (λ o. o || covers depth x s k) (covers_joined a b k)
      ∙ sym (or_thrice (covers_all depth x b k) (covers_all depth x a k) (covers depth x s k))

  pub lives_joined : (a b : LeafBlock) (k : ℕ)
      → lives_all depth x (joined a b) k ≡ unless (covers_all depth x b k) (lives_all depth x a k) ++ lives_all depth x b k
  lives_joined done b k = ap (λ ls. ls ++ lives_all depth x b k) (sym (unless_none (covers_all depth x b k)))
  lives_joined ((then) s a) b k =
      let ca = covers_all depth x a k in
      let cb = covers_all depth x b k in
      ap₂ (λ c ls. unless c (lives depth x s k) ++ ls) (covers_joined a b k) (lives_joined a b k)
      ∙ unless_thrice ca cb (lives depth x s k) (lives_all depth x a k) (lives_all depth x b k)

  -- where nothing drives the leaf
  pub record IsQuiet (b : LeafBlock) (k : ℕ) : Type 0 where
    pub lives : lives_all depth x b k ≡ []
    pub covers : covers_all depth x b k ≡ false

  either_none : (early : Bool) (c : Term) (cb : Bool) → (if early then unless cb [] ++ [] else map (below c) ([] ++ [])) ≡ []
  either_none true c cb = rw (unless_none cb) refl
  either_none false c cb = refl

  either_false : (early : Bool) → (if early then false || false else false && false) ≡ false
  either_false true = refl
  either_false false = refl

  mutual
    quiet_statement : (s : LeafStatement) (k : ℕ) → drives x s ≡ false → (lives depth x s k ≡ []) × (covers depth x s k ≡ false)
    quiet_statement (drive p b ps t) k e = (rw e refl, rw e refl)
    quiet_statement (when p c a b) k e =
        let parts = or_parts (drives_any x a) (drives_any x b) e in
        let first = quiet a (k + 1) parts.0 in
        let second = quiet b (k + 1) parts.1 in (
          rw (first.lives, second.lives) (either_none (nat_lt k depth) c (covers_all depth x b (k + 1))),
          rw (first.covers, second.covers) (either_false (nat_lt k depth)),
        )
    quiet_statement (instance i) k e = (refl, refl)

    pub quiet : (b : LeafBlock) (k : ℕ) → drives_any x b ≡ false → IsQuiet b k
    quiet done k e = record { lives = refl; covers = refl }
    quiet ((then) s b) k e =
        let parts = or_parts (drives x s) (drives_any x b) e in
        let here = quiet_statement s k parts.0 in
        let rest = quiet b k parts.1 in
        record { lives = rw (here.0, rest.lives, rest.covers) refl; covers = rw (here.1, rest.covers) refl }

  -- one behind the other, of which one is quiet
  pub before_quiet : (a b : LeafBlock) (k : ℕ) → drives_any x b ≡ false → lives_all depth x (joined a b) k ≡ lives_all depth x a k
  before_quiet a b k e =
      let q = quiet b k e in lives_joined a b k ∙ rw (q.lives, q.covers) (append-nil (lives_all depth x a k))

  pub behind_quiet : (a b : LeafBlock) (k : ℕ) → drives_any x a ≡ false → lives_all depth x (joined a b) k ≡ lives_all depth x b k
  behind_quiet a b k e =
      let q = quiet a k e in
      lives_joined a b k ∙ ap (λ ls. unless (covers_all depth x b k) ls ++ lives_all depth x b k) q.lives
      ∙ ap (λ ls. ls ++ lives_all depth x b k) (unless_none (covers_all depth x b k))

  -- so in a when that stands round the leaf's declaration
  pub first_of_when : (p : Place) (c : Term) (a b : LeafBlock) (k : ℕ) → k < depth → drives_any x b ≡ false
      → lives_all depth x ((then) (when p c a b) done) k ≡ lives_all depth x a (k + 1)
  first_of_when p c a b k lt e =
      let q = quiet b (k + 1) e in
      rw (lt-ltb k depth lt, q.lives, q.covers)
      (append-nil (lives_all depth x a (k + 1) ++ []) ∙ append-nil (lives_all depth x a (k + 1)))

  pub second_of_when : (p : Place) (c : Term) (a b : LeafBlock) (k : ℕ) → k < depth → drives_any x a ≡ false
      → lives_all depth x ((then) (when p c a b) done) k ≡ lives_all depth x b (k + 1)
  second_of_when p c a b k lt e =
      let q = quiet a (k + 1) e in
      rw (lt-ltb k depth lt, q.lives, unless_none (covers_all depth x b (k + 1)))
      (append-nil (lives_all depth x b (k + 1)))

  -- and so with whether it is covered
  pub covers_before_quiet : (a b : LeafBlock) (k : ℕ) → drives_any x b ≡ false → covers_all depth x (joined a b) k ≡ covers_all depth x a k
  covers_before_quiet a b k e = covers_joined a b k ∙ ap (λ c. c || covers_all depth x a k) (quiet b k e).covers

  pub covers_behind_quiet : (a b : LeafBlock) (k : ℕ) → drives_any x a ≡ false → covers_all depth x (joined a b) k ≡ covers_all depth x b k
  covers_behind_quiet a b k e =
      covers_joined a b k ∙ ap (λ c. covers_all depth x b k || c) (quiet a k e).covers ∙ sym (or_none (covers_all depth x b k))

  pub covers_first_of_when : (p : Place) (c : Term) (a b : LeafBlock) (k : ℕ) → k < depth → drives_any x b ≡ false
      → covers_all depth x ((then) (when p c a b) done) k ≡ covers_all depth x a (k + 1)
  covers_first_of_when p c a b k lt e = rw (lt-ltb k depth lt, (quiet b (k + 1) e).covers) refl

  pub covers_second_of_when : (p : Place) (c : Term) (a b : LeafBlock) (k : ℕ) → k < depth → drives_any x a ≡ false
      → covers_all depth x ((then) (when p c a b) done) k ≡ covers_all depth x b (k + 1)
  covers_second_of_when p c a b k lt e = rw (lt-ltb k depth lt, (quiet a (k + 1) e).covers) (sym (or_none (covers_all depth x b (k + 1))))

-- moved as a whole
module _ (n : Numbering) where
  below_moved : (c : Term) (ls : List Live) → map (below (moved n c)) (map (moved_live n) ls) ≡ map (moved_live n) (map (below c) ls)
  below_moved c [] = refl
  below_moved c (l ∷ ls) = ap (λ ms. moved_live n (below c l) ∷ ms) (below_moved c ls)

  -- of blocks, and of what is live in them
  pub record AreMoved (outer inner : List Live) (covers_outer covers_inner : Bool) : Type 0 where
    pub lives : outer ≡ map (moved_live n) inner
    pub covers : covers_outer ≡ covers_inner

  pub moved_joined : (ws bs cs ds : List Live) (ca cb dc cd : Bool) → AreMoved ws cs ca dc → AreMoved bs ds cb cd
      → AreMoved (unless cb ws ++ bs) (unless cd cs ++ ds) (cb || ca) (cd || dc)
  moved_joined ws bs cs ds ca cb dc cd a b = record {
    lives =
        ap₂ (λ c ls. unless c ls ++ bs) b.covers a.lives ∙ ap₂ (λ ls ms. ls ++ ms) (unless_moved (moved_live n) cd cs) b.lives
        ∙ sym (map-append (moved_live n) (unless cd cs) ds);
    covers = ap₂ (λ c d. c || d) b.covers a.covers;
  }

  pub moved_when : (early other : Bool) (c : Term) (ws bs cs ds : List Live) (ca cb dc cd : Bool) → early ≡ other → AreMoved ws cs ca dc → AreMoved bs ds cb cd
      → AreMoved (if early then unless cb ws ++ bs else map (below (moved n c)) (ws ++ bs)) (if other then unless cd cs ++ ds else map (below c) (cs ++ ds))
      (if early then cb || ca else ca && cb) (if other then cd || dc else dc && cd)
  moved_when true true c ws bs cs ds ca cb dc cd e a b = moved_joined ws bs cs ds ca cb dc cd a b
  moved_when false false c ws bs cs ds ca cb dc cd e a b = record {
    lives =
        ap (map (below (moved n c))) (ap₂ (λ ls ms. ls ++ ms) a.lives b.lives ∙ sym (map-append (moved_live n) cs ds))
        ∙ below_moved c (cs ++ ds);
    covers = ap₂ (λ d f. d && f) a.covers b.covers;
  }
  moved_when true false c ws bs cs ds ca cb dc cd e a b = absurd (cc)
  moved_when false true c ws bs cs ds ca cb dc cd e a b = absurd (cc)

  pub moved_drive : (among other picked same : Bool) (l : Live) → among ≡ other → picked ≡ same
      → AreMoved (if among then moved_live n l ∷ [] else []) (if other then l ∷ [] else []) (among && not picked) (other && not same)
  moved_drive true true picked same l e h = record { lives = refl; covers = ap not h }
  moved_drive false false picked same l e h = record { lives = refl; covers = refl }
  moved_drive true false picked same l e h = absurd (cc)
  moved_drive false true picked same l e h = absurd (cc)

  -- a statement that stands alone
  pub moved_alone : (ws bs : List Live) (c d : Bool) → AreMoved ws bs c d → AreMoved (ws ++ []) bs (false || c) d
  moved_alone ws bs c d a = record { lives = append-nil ws ∙ a.lives; covers = a.covers }
