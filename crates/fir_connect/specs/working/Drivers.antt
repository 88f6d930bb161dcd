-- What drives a leaf: one term of the net for all statements of a module (FIRRTL spec, "Last Connect Semantics", "Conditional Last Connect Semantics").
-- A later statement takes the place of what stood before; a when that holds a statement for the leaf, and not its declaration, chooses between what its
-- blocks leave, also where both are the same; a statement through indices chooses between what it gives and what stood before.
use Rattle.std.specs.Prelude.{ℕ, ◌+◌, List, [], ◌∷◌, Bool, ◌||◌, nat_eq, nat_lt, if◌then◌else◌}
use Rattle.fir_meaning.specs.working.Terms.{Term, Picks, zeros, no_picks, pick}
use Rattle.fir_meaning.specs.working.TermReads.{reached}
use Rattle.fir_meaning.specs.working.TermValues.{Holds}
use Rattle.fir_meaning.specs.working.LeafBlocks.{LeafStatement, LeafBlock, drive, when, instance, done, then}
use Rattle.fir_meaning.specs.working.UndrivenChoices.{drives_any}
use Rattle.fir_connect.specs.working.NetTerms.{NetTerm, leaf, choice}
use Rattle.fir_connect.specs.working.Lowered.{Candidate, candidates, conditions, lowered, zero_of}

-- what a statement gives to a leaf: `is invalid` zero of the leaf's type
abbrev pub given : Holds → ℕ → Term → NetTerm
given holds x zeros = zero_of (holds x)
given holds x t = lowered holds t

module _ (holds : Holds) (depth x : ℕ) where
  -- what a statement leaves through its candidates
  abbrev pub through : List Candidate → NetTerm → NetTerm → NetTerm
  through [] e old = old
  through (c ∷ cs) e old = through cs e (if nat_eq c.number x then choice holds c.condition e old else old)

  abbrev pub driven_by : ℕ → Picks → NetTerm → NetTerm → NetTerm
  driven_by b no_picks e old = if nat_eq b x then e else old
  driven_by b (pick ps p i n each) e old =
      through (candidates (reached b (pick ps p i n each)) (conditions holds (pick ps p i n each))) e old

  abbrev mutual
    pub driver : LeafStatement → ℕ → NetTerm → NetTerm
    driver (drive p b ps e) k old = driven_by b ps (given holds x e) old
    driver (when p c a b) k old =
        if nat_lt k depth
        then driver_all b (k + 1) (driver_all a (k + 1) old)
        else if drives_any x a || drives_any x b
        then choice holds (lowered holds c) (driver_all a (k + 1) old) (driver_all b (k + 1) old)
        else old
    driver (instance i) k old = old

    pub driver_all : LeafBlock → ℕ → NetTerm → NetTerm
    driver_all done k old = old
    driver_all ((then) s b) k old = driver_all b k (driver s k old)

-- a register without a statement keeps what it shows
abbrev pub start : Holds → Bool → ℕ → NetTerm
start holds is_register x = if is_register then leaf x else zero_of (holds x)

-- what drives a leaf
abbrev pub driver_of : Holds → ℕ → Bool → LeafBlock → ℕ → NetTerm
driver_of holds depth is_register b x = driver_all holds depth x b 0 (start holds is_register x)
