-- Where some statement drives a leaf, one is live for it.
use Rattle.std.proofs.Common.{◌≡◌, ℕ, ◌+◌, List, [], ◌∷◌, ◌++◌, map, Bool, true, false, ◌||◌, nat_lt, if◌then◌else◌, refl, sym, subst}
use Rattle.fir_design_faults.proofs.FlatLives.{quiet}
use Rattle.fir_meaning.specs.working.Choices.{Live, below, covers_all, lives, lives_all, unless}
use Rattle.fir_meaning.specs.working.LeafBlocks.{LeafBlock, LeafStatement, done, drive, instance, then, when}
use Rattle.fir_meaning.specs.working.Terms.{Term}
use Rattle.fir_meaning.specs.working.UndrivenChoices.{drives, drives_any}

abbrev pub HasOne : List Live → Type 0
HasOne [] = ⊥
HasOne (l ∷ ls) = Unit {0}

one_left : (ls ms : List Live) → HasOne ls → HasOne (ls ++ ms)
one_left [] ms h = absurd h
one_left (l ∷ ls) ms h = tt

one_right : (ls ms : List Live) → HasOne ms → HasOne (ls ++ ms)
one_right [] ms h = h
one_right (l ∷ ls) ms h = tt

one_below : (c : Term) (ls : List Live) → HasOne ls → HasOne (map (below c) ls)
one_below c [] h = absurd h
one_below c (l ∷ ls) h = tt

-- of two, of which the later one covers nothing where it drives nothing
later_one : (a b covers : Bool) (ls ms : List Live) → (a || b) ≡ true → (a ≡ true → HasOne ls) → (b ≡ true → HasOne ms)
    → (b ≡ false → covers ≡ false) → HasOne (unless covers ls ++ ms)
later_one a true covers ls ms e f g none = one_right (unless covers ls) ms (g refl)
later_one true false covers ls ms e f g none = subst (λ k. HasOne (unless k ls ++ ms)) (sym (none refl)) (one_left ls ms (f refl))
later_one false false covers ls ms e f g none = absurd (cc)

either_one : (a b : Bool) (ls ms : List Live) → (a || b) ≡ true → (a ≡ true → HasOne ls) → (b ≡ true → HasOne ms) → HasOne (ls ++ ms)
either_one true b ls ms e f g = one_left ls ms (f refl)
either_one false true ls ms e f g = one_right ls ms (g refl)
either_one false false ls ms e f g = absurd (cc)

when_one : (early a b covers : Bool) (c : Term) (ls ms : List Live) → (a || b) ≡ true → (a ≡ true → HasOne ls) → (b ≡ true → HasOne ms)
    → (b ≡ false → covers ≡ false) → HasOne (if early then unless covers ls ++ ms else map (below c) (ls ++ ms))
when_one true a b covers c ls ms e f g none = later_one a b covers ls ms e f g none
when_one false a b covers c ls ms e f g none = one_below c (ls ++ ms) (either_one a b ls ms e f g)

module _ (depth x : ℕ) where
  mutual
    statement_lives : (s : LeafStatement) (k : ℕ) → drives x s ≡ true → HasOne (lives depth x s k)
    statement_lives (drive p b ps t) k e = rw e tt
    statement_lives (when p c a b) k e =
        when_one (nat_lt k depth) (drives_any x a) (drives_any x b) (covers_all depth x b (k + 1)) c (lives_all depth x a (k + 1))
        (lives_all depth x b (k + 1)) e (block_lives a (k + 1)) (block_lives b (k + 1)) (λ none. (quiet depth x b (k + 1) none).covers)
    statement_lives (instance i) k e = absurd (cc)

    pub block_lives : (b : LeafBlock) (k : ℕ) → drives_any x b ≡ true → HasOne (lives_all depth x b k)
    block_lives done k e = absurd (cc)
    block_lives ((then) s b) k e =
        later_one (drives x s) (drives_any x b) (covers_all depth x b k) (lives depth x s k) (lives_all depth x b k) e (statement_lives s k)
        (block_lives b k) (λ none. (quiet depth x b k none).covers)

  -- and nothing drives it where none is
  pub lives_driven : (b : LeafBlock) (k : ℕ) → HasOne (lives_all depth x b k) → drives_any x b ≡ true
  lives_driven b k h = by (drives_any x b) refl
    where
      by : (d : Bool) → drives_any x b ≡ d → d ≡ true
      by true e = refl
      by false e = absurd (subst HasOne (quiet depth x b k e).lives h)
