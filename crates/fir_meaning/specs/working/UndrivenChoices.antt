-- Which choices leave a leaf undriven, and which of them is told (FIRRTL spec, "Initialization of Components").
-- A choice is told by the outcomes of the whens and of the statements through indices that are reached and that hold a statement that drives the leaf. The
-- one is told whose outcomes come first, compared in the order of the text: 0 before 1, and a miss before a hit.
use Rattle.std.specs.Prelude.{◌≡◌, ℕ, ◌+◌, List, [], ◌∷◌, ◌++◌, Bool, false, ◌&&◌, ◌||◌, nat_lt, if◌then◌else◌, None}
use Rattle.fir_ast.specs.declared.fault.Outcome.{Outcome}
use Rattle.fir_ast.specs.declared.fault.Outcome.TheVariants as outcome
use Rattle.fir_meaning.specs.Outcomes.{ComesFirst, told_once, write_told}
use Rattle.fir_meaning.specs.working.TermReads.{reached, is_picked, is_among}
use Rattle.fir_meaning.specs.working.LeafBlocks.{LeafStatement, LeafBlock, drive, when, instance, done, then}
use Rattle.fir_meaning.specs.working.Choices.{Choice, first_part, second_part, last_all}

-- whether some statement in it drives the leaf
abbrev mutual
  pub drives : ℕ → LeafStatement → Bool
  drives x (drive p b ps t) = is_among (reached b ps) x
  drives x (when p c a b) = drives_any x a || drives_any x b
  drives x (instance i) = false

  pub drives_any : ℕ → LeafBlock → Bool
  drives_any x done = false
  drives_any x ((then) s b) = drives x s || drives_any x b

-- the same, where the leaf is declared within so many whens
module _ (depth x : ℕ) where
  abbrev mutual
    pub told : LeafStatement → ℕ → Choice → List Outcome
    told (drive p b ps t) k f = write_told (is_picked ps && is_among (reached b ps) x) p (f [])
    told (when p c a b) k f =
        if nat_lt k depth
        then told_all a (k + 1) (first_part f) ++ told_all b (k + 1) (second_part f)
        else if drives_any x a || drives_any x b
        then outcome.When p (f []) ∷ (if f [] then told_all a (k + 1) (first_part f) else told_all b (k + 1) (second_part f))
        else []
    told (instance i) k f = []

    pub told_all : LeafBlock → ℕ → Choice → List Outcome
    told_all done k f = []
    told_all ((then) s b) k f = told s k (first_part f) ++ told_all b k (second_part f)

  abbrev pub IsUndriven : LeafBlock → Choice → Type 0
  IsUndriven b f = last_all depth x b 0 f ≡ None

-- a choice of which these outcomes are told leaves the leaf undriven, and of each that does the outcomes come no earlier
pub record IsFirstUndriven (depth x : ℕ) (b : LeafBlock) (outcomes : List Outcome) : Type 0 where
  pub choice : Choice
  pub undriven : IsUndriven depth x b choice
  pub are : told_once (told_all depth x b 0 choice) ≡ outcomes
  pub first : (other : Choice) → IsUndriven depth x b other → ComesFirst (told_all depth x b 0 choice) (told_all depth x b 0 other)
