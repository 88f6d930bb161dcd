-- Statements of which none drives a leaf leave it as it was.
use Rattle.std.proofs.Common.{◌≡◌, ℕ, ◌+◌, Bool, true, false, ◌||◌, if◌then◌else◌, refl, ap, ◌∙◌, nat_eq, nat_lt}
use Rattle.fir_meaning.specs.working.LeafBlocks.{LeafStatement, LeafBlock, drive, when, instance, done, then}
use Rattle.fir_meaning.specs.working.TermReads.{reached}
use Rattle.fir_meaning.specs.working.TermValues.{Holds}
use Rattle.fir_meaning.specs.working.Terms.{no_picks, pick}
use Rattle.fir_meaning.specs.working.UndrivenChoices.{drives, drives_any}
use Rattle.fir_connect.specs.working.Drivers.{driver, driver_all, given}
use Rattle.fir_connect.specs.working.Lowered.{conditions, lowered}
use Rattle.fir_connect.specs.working.NetTerms.{NetTerm, choice}
use Rattle.fir_drivers.proofs.ThroughCandidates.{through_none}

pub neither : (a b : Bool) → (a || b) ≡ false → (a ≡ false) × (b ≡ false)
neither false b h = (refl, h)
neither true b h = absurd cc

module _ (holds : Holds) (depth x : ℕ) where
  mutual
    quiet : (s : LeafStatement) (k : ℕ) (old : NetTerm) → drives x s ≡ false → driver holds depth x s k old ≡ old
    quiet (drive p b no_picks e) k old none =
        ap (λ (here : Bool). if here then given holds x e else old) (neither (nat_eq b x) false none).0
    quiet (drive p b (pick ps q i n each) e) k old none =
        through_none holds depth x (reached b (pick ps q i n each)) (conditions holds (pick ps q i n each)) (given holds x e) old none
    quiet (when p c a b) k old none =
        let both = neither (drives_any x a) (drives_any x b) none in
        let inside = quiet_all b (k + 1) (driver_all holds depth x a (k + 1) old) both.1 ∙ quiet_all a (k + 1) old both.0 in
        by (nat_lt k depth) inside
      where
        by : (in_ : Bool) → driver_all holds depth x b (k + 1) (driver_all holds depth x a (k + 1) old) ≡ old
            → (if in_ then driver_all holds depth x b (k + 1) (driver_all holds depth x a (k + 1) old)
            else if drives_any x a || drives_any x b
            then choice holds (lowered holds c) (driver_all holds depth x a (k + 1) old) (driver_all holds depth x b (k + 1) old)
            else old) ≡ old
        by true inside = inside
        by false inside = rw none refl
    quiet (instance i) k old none = refl

    pub quiet_all : (b : LeafBlock) (k : ℕ) (old : NetTerm) → drives_any x b ≡ false → driver_all holds depth x b k old ≡ old
    quiet_all done k old none = refl
    quiet_all ((then) s b) k old none =
        let both = neither (drives x s) (drives_any x b) none in
        quiet_all b k (driver holds depth x s k old) both.1 ∙ quiet s k old both.0
