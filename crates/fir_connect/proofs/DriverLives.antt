-- Where no statement drives a leaf, none is live for it and none covers it; where one does, some statement is live.
use Rattle.std.proofs.Common.{◌≡◌, ℕ, ◌+◌, [], List, ◌++◌, map, Bool, true, false, ◌||◌, Option, Some, None, refl, inl, ⊎_elim, subst, nat_lt, if◌then◌else◌}
use Rattle.std.proofs.lemmas.Bool.{false_from_ne_true, or_cases, or_parts}
use Rattle.fir_base.specs.Lists.{In}
use Rattle.fir_base.proofs.Members.{in_left, in_map, in_right}
use Rattle.fir_meaning.specs.working.Terms.{Term}
use Rattle.fir_meaning.specs.working.LeafBlocks.{LeafStatement, drive, when, instance, LeafBlock, done, then}
use Rattle.fir_meaning.specs.working.Choices.{Choice, Live, below, covers_all, driving, last_all, lives, lives_all, unless}
use Rattle.fir_meaning.specs.working.UndrivenChoices.{drives, drives_any}
use Rattle.fir_leaf.proofs.LiveStatements.{covered_all, live_all}

pub record SomeLive (ls : List Live) : Type 0 where
  pub live : Live
  pub among : In ls live

no_live : SomeLive [] → ⊥
no_live l = absurd l.among

first_lives : (ls ms : List Live) → SomeLive ls → SomeLive (ls ++ ms)
first_lives ls ms l = record { live = l.live; among = in_left ls ms l.live l.among }

more_lives : (ls ms : List Live) → SomeLive ms → SomeLive (ls ++ ms)
more_lives ls ms l = record { live = l.live; among = in_right ls ms l.live l.among }

-- of what comes earlier none is live where what comes later covers it
some_unless : (covered : Bool) (ls ms : List Live) → (covered ≡ true → SomeLive ms) → SomeLive ls → SomeLive (unless covered ls ++ ms)
some_unless true ls ms later l = later refl
some_unless false ls ms later l = first_lives ls ms l

some_when : (early covered : Bool) (c : Term) (ls ms : List Live) → SomeLive (unless covered ls ++ ms) → SomeLive (ls ++ ms)
    → SomeLive (if early then unless covered ls ++ ms else map (below c) (ls ++ ms))
some_when true covered c ls ms l m = l
some_when false covered c ls ms l m = record { live = below c m.live; among = in_map (below c) (ls ++ ms) m.live m.among }

none_when : (early covered : Bool) (c : Term) (ls ms : List Live) → ls ≡ [] → ms ≡ []
    → (if early then unless covered ls ++ ms else map (below c) (ls ++ ms)) ≡ []
none_when true true c ls ms e f = f
none_when true false c ls ms e f = rw (e, f) refl
none_when false covered c ls ms e f = rw (e, f) refl

none_then : (covered : Bool) (ls ms : List Live) → ls ≡ [] → ms ≡ [] → (unless covered ls ++ ms) ≡ []
none_then true ls ms e f = f
none_then false ls ms e f = rw (e, f) refl

module _ (depth x : ℕ) where
  covered_lives : (b : LeafBlock) (k : ℕ) → covers_all depth x b k ≡ true → SomeLive (lives_all depth x b k)
  covered_lives b k c = go (last_all depth x b k other) refl
    where
      other : Choice
      other way = false

      go : (o : Option Live) → last_all depth x b k other ≡ o → SomeLive (lives_all depth x b k)
      go None e = absurd (covered_all depth x b k c other e)
      go (Some l) e = record { live = l; among = live_all depth x b k other l e }

  mutual
    driven_live : (s : LeafStatement) (k : ℕ) → drives x s ≡ true → SomeLive (lives depth x s k)
    driven_live (drive p b ps t) k d = rw d (record { live = driving p ps t; among = inl refl })
    driven_live (when p c a b) k d =
        let early = nat_lt k depth in
        let covered = covers_all depth x b (k + 1) in
        let ls = lives_all depth x a (k + 1) in
        let ms = lives_all depth x b (k + 1) in
        ⊎_elim
        (λ (h : drives_any x a ≡ true).
        let l = driven_lives a (k + 1) h in
        some_when early covered c ls ms (some_unless covered ls ms (covered_lives b (k + 1)) l) (first_lives ls ms l))
        (λ (h : drives_any x b ≡ true).
        let l = driven_lives b (k + 1) h in
        some_when early covered c ls ms (more_lives (unless covered ls) ms l) (more_lives ls ms l))
        (or_cases (drives_any x a) (drives_any x b) d)
    driven_live (instance i) k d = absurd cc

    driven_lives : (b : LeafBlock) (k : ℕ) → drives_any x b ≡ true → SomeLive (lives_all depth x b k)
    driven_lives done k d = absurd cc
    driven_lives ((then) s b) k d =
        let covered = covers_all depth x b k in
        let ls = lives depth x s k in
        let ms = lives_all depth x b k in
        ⊎_elim
        (λ (h : drives x s ≡ true). some_unless covered ls ms (covered_lives b k) (driven_live s k h))
        (λ (h : drives_any x b ≡ true). more_lives (unless covered ls) ms (driven_lives b k h))
        (or_cases (drives x s) (drives_any x b) d)

  mutual
    undriven_live : (s : LeafStatement) (k : ℕ) → drives x s ≡ false → lives depth x s k ≡ []
    undriven_live (drive p b ps t) k d = rw d refl
    undriven_live (when p c a b) k d =
        let parts = or_parts (drives_any x a) (drives_any x b) d in
        none_when (nat_lt k depth) (covers_all depth x b (k + 1)) c (lives_all depth x a (k + 1)) (lives_all depth x b (k + 1))
        (undriven_lives a (k + 1) parts.0) (undriven_lives b (k + 1) parts.1)
    undriven_live (instance i) k d = refl

    pub undriven_lives : (b : LeafBlock) (k : ℕ) → drives_any x b ≡ false → lives_all depth x b k ≡ []
    undriven_lives done k d = refl
    undriven_lives ((then) s b) k d =
        let parts = or_parts (drives x s) (drives_any x b) d in
        none_then (covers_all depth x b k) (lives depth x s k) (lives_all depth x b k) (undriven_live s k parts.0) (undriven_lives b k parts.1)

  uncovered : (b : LeafBlock) (k : ℕ) → drives_any x b ≡ false → covers_all depth x b k ≡ false
  uncovered b k d = false_from_ne_true _ (λ c. no_live (subst SomeLive (undriven_lives b k d) (covered_lives b k c)))

  -- of two blocks beside each other
  pub some_in : (a b : LeafBlock) (k : ℕ) → (drives_any x a || drives_any x b) ≡ true → SomeLive (lives_all depth x a k ++ lives_all depth x b k)
  some_in a b k d =
      ⊎_elim
      (λ (h : drives_any x a ≡ true). first_lives (lives_all depth x a k) (lives_all depth x b k) (driven_lives a k h))
      (λ (h : drives_any x b ≡ true). more_lives (lives_all depth x a k) (lives_all depth x b k) (driven_lives b k h))
      (or_cases (drives_any x a) (drives_any x b) d)

  pub none_in : (a b : LeafBlock) (k : ℕ) → (drives_any x a || drives_any x b) ≡ false
      → (lives_all depth x a k ≡ []) × (lives_all depth x b k ≡ []) × (covers_all depth x a k ≡ false)
  none_in a b k d =
      let parts = or_parts (drives_any x a) (drives_any x b) d in
      (undriven_lives a k parts.0, undriven_lives b k parts.1, uncovered a k parts.0)
