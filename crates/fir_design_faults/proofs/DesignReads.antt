-- What live statements of a design read by number is what live drives of its modules read by path.
use Rattle.std.proofs.Common.{◌≡◌, ℕ, ◌+◌, List, [], ◌∷◌, ◌++◌, map, Bool, true, false, nat_lt, if◌then◌else◌, refl, subst, inl, inr, ⊎_elim}
use Rattle.std.specs.List.{AllByRecursion}
use Rattle.fir_base.specs.Lists.{In}
use Rattle.fir_base.proofs.Members.{in_either, in_map_from}
use Rattle.fir_meaning.specs.working.Choices as over
use Rattle.fir_meaning.specs.working.Choices.{Live, LiveReads, below, live_reads, lives, lives_all, unless}
use Rattle.fir_meaning.specs.working.LeafBlocks.{LeafBlock, LeafStatement, done, drive, instance, then, when}
use Rattle.fir_meaning.specs.working.LeafModules.{LeafModule}
use Rattle.fir_meaning.specs.working.TermReads.{is_among, reached}
use Rattle.fir_meaning.specs.working.Terms.{Term}
use Rattle.fir_meaning.specs.working.UndrivenChoices.{drives_any}
use Rattle.fir_design_faults.proofs.AllTerms.{AllPicksIn, AllTermIn}
use Rattle.fir_design_faults.proofs.FlatLives.{quiet}
use Rattle.fir_design_faults.proofs.ReadStatements.{AreReading, IsReading}

-- a live statement reads leaves of the module
pub record LiveIn (m : LeafModule) (l : Live) : Type 0 where
  pub through : AllPicksIn m l.through
  pub given : AllTermIn m l.given
  pub under : AllByRecursion (AllTermIn m) l.under

in_unless : (b : Bool) (ls : List Live) (l : Live) → In (unless b ls) l → In ls l
in_unless true ls l i = absurd i
in_unless false ls l i = i

module _ (m : LeafModule) (depth x : ℕ) where
  one_reading : (b : Bool) (d l : Live) → LiveIn m d → In (if b then d ∷ [] else []) l → LiveIn m l
  one_reading true d l h (inl e) = subst (LiveIn m) e h
  one_reading true d l h (inr i) = absurd i
  one_reading false d l h i = absurd i

  when_reading : (early cb : Bool) (c : Term) (ls ms : List Live) (l : Live) → AllTermIn m c → ((n : Live) → In ls n → LiveIn m n) → ((n : Live) → In ms n → LiveIn m n)
      → In (if early then unless cb ls ++ ms else map (below c) (ls ++ ms)) l → LiveIn m l
  when_reading true cb c ls ms l t f g i =
      ⊎_elim (λ (j : In (unless cb ls) l). f l (in_unless cb ls l j)) (λ (j : In ms l). g l j) (in_either (unless cb ls) ms l i)
  when_reading false cb c ls ms l t f g i =
      let from = in_map_from (below c) (ls ++ ms) l i in
      let h = ⊎_elim (λ (j : In ls from.0). f from.0 j) (λ (j : In ms from.0). g from.0 j) (in_either ls ms from.0 from.1) in
      subst (LiveIn m) from.2 (record { through = h.through; given = h.given; under = (t, h.under) })

  mutual
    statement_live : (s : LeafStatement) (k : ℕ) → IsReading m s → (l : Live) → In (lives depth x s k) l → LiveIn m l
    statement_live (drive p b ps t) k h l i =
        one_reading (is_among (reached b ps) x) (over.driving p ps t) l (record { through = h.1; given = h.2; under = tt }) i
    statement_live (when p c a b) k h l i =
        when_reading (nat_lt k depth) (over.covers_all depth x b (k + 1)) c (lives_all depth x a (k + 1)) (lives_all depth x b (k + 1)) l h.0
        (λ n j. block_live a (k + 1) h.1 n j) (λ n j. block_live b (k + 1) h.2 n j) i
    statement_live (instance y) k h l i = absurd i

    pub block_live : (b : LeafBlock) (k : ℕ) → AreReading m b → (l : Live) → In (lives_all depth x b k) l → LiveIn m l
    block_live done k h l i = absurd i
    block_live ((then) s b) k h l i =
        ⊎_elim
        (λ (j : In (unless (over.covers_all depth x b k) (lives depth x s k)) l).
        statement_live s k h.0 l (in_unless (over.covers_all depth x b k) (lives depth x s k) l j))
        (λ (j : In (lives_all depth x b k) l). block_live b k h.1 l j)
        (in_either (unless (over.covers_all depth x b k) (lives depth x s k)) (lives_all depth x b k) l i)

  -- what drives nothing is not live
  pub live_drives : (b : LeafBlock) (k : ℕ) (l : Live) → In (lives_all depth x b k) l → drives_any x b ≡ true
  live_drives b k l i = by (drives_any x b) refl
    where
      by : (v : Bool) → drives_any x b ≡ v → v ≡ true
      by true e = refl
      by false e = absurd (subst (λ ls. In ls l) (quiet depth x b k e).lives i)
