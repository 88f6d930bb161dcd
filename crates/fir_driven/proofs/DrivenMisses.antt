-- Statements that reach a leaf under every choice drive it, and where none drives it no outcome is told of it.
use Rattle.std.proofs.Common.{◌≡◌, ℕ, ◌+◌, List, [], ◌∷◌, ◌++◌, Bool, true, false, not, ◌&&◌, ◌||◌, nat_lt, if◌then◌else◌, refl}
use Rattle.std.proofs.lemmas.Bool.{and_parts, or_left, or_parts, or_right}
use Rattle.fir_ast.specs.declared.fault.Outcome.{Outcome}
use Rattle.fir_ast.specs.declared.fault.Outcome.TheVariants as outcome
use Rattle.fir_ast.specs.declared.place.Place.{Place}
use Rattle.fir_meaning.specs.working.TermReads.{reached, is_picked, is_among}
use Rattle.fir_meaning.specs.working.LeafBlocks.{LeafStatement, LeafBlock, drive, when, instance, done, then}
use Rattle.fir_meaning.specs.working.Choices.{covers, covers_all}
use Rattle.fir_meaning.specs.working.UndrivenChoices.{drives, drives_any}
use Rattle.fir_meaning.specs.Outcomes.{write_told}
use Rattle.fir_driven.specs.working.Missed.{missed, missed_all}

both_drive : (early covers_a covers_b drives_a drives_b : Bool) → (covers_a ≡ true → drives_a ≡ true) → (covers_b ≡ true → drives_b ≡ true)
    → (if early then covers_b || covers_a else covers_a && covers_b) ≡ true → (drives_a || drives_b) ≡ true
both_drive true covers_a true drives_a drives_b f g e = or_right drives_a drives_b (g refl)
both_drive true covers_a false drives_a drives_b f g e = or_left drives_a drives_b (f e)
both_drive false true covers_b drives_a drives_b f g e = or_left drives_a drives_b (f refl)
both_drive false false covers_b drives_a drives_b f g e = absurd cc

drive_misses : (picked among : Bool) (p : Place) → among ≡ false → write_told (picked && among) p false ≡ []
drive_misses true false p e = refl
drive_misses false false p e = refl
drive_misses picked true p e = absurd cc

when_misses : (early drives covers_b : Bool) (p : Place) (missed_a missed_b : List Outcome) → drives ≡ false → missed_a ≡ [] → missed_b ≡ []
    → (if early
    then missed_a ++ missed_b
    else if not drives
    then []
    else if covers_b
    then outcome.When p true ∷ missed_a
    else outcome.When p false ∷ missed_b) ≡ []
when_misses true drives covers_b p missed_a missed_b e f g = rw (f, g) refl
when_misses false false covers_b p missed_a missed_b e f g = refl
when_misses false true covers_b p missed_a missed_b e f g = absurd cc

module _ (depth x : ℕ) where
  mutual
    covers_drive : (s : LeafStatement) (k : ℕ) → covers depth x s k ≡ true → drives x s ≡ true
    covers_drive (drive p b ps t) k c = (and_parts (is_among (reached b ps) x) (not (is_picked ps)) c).0
    covers_drive (when p c a b) k e =
        both_drive (nat_lt k depth) (covers_all depth x a (k + 1)) (covers_all depth x b (k + 1)) (drives_any x a) (drives_any x b)
        (covers_drives a (k + 1)) (covers_drives b (k + 1)) e
    covers_drive (instance i) k c = absurd cc

    pub covers_drives : (b : LeafBlock) (k : ℕ) → covers_all depth x b k ≡ true → drives_any x b ≡ true
    covers_drives done k c = absurd cc
    covers_drives ((then) s b) k c =
        both_drive true (covers depth x s k) (covers_all depth x b k) (drives x s) (drives_any x b) (covers_drive s k) (covers_drives b k) c

  mutual
    undriven_miss : (s : LeafStatement) (k : ℕ) → drives x s ≡ false → missed depth x s k ≡ []
    undriven_miss (drive p b ps t) k d = drive_misses (is_picked ps) (is_among (reached b ps) x) p d
    undriven_miss (when p c a b) k d =
        let e = or_parts (drives_any x a) (drives_any x b) d in
        when_misses (nat_lt k depth) (drives_any x a || drives_any x b) (covers_all depth x b (k + 1)) p
        (missed_all depth x a (k + 1)) (missed_all depth x b (k + 1)) d (undriven_misses a (k + 1) e.0) (undriven_misses b (k + 1) e.1)
    undriven_miss (instance i) k d = refl

    pub undriven_misses : (b : LeafBlock) (k : ℕ) → drives_any x b ≡ false → missed_all depth x b k ≡ []
    undriven_misses done k d = refl
    undriven_misses ((then) s b) k d =
        let e = or_parts (drives x s) (drives_any x b) d in
        rw (undriven_miss s k e.0, undriven_misses b k e.1) refl
