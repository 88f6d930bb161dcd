-- The outcomes of the choice that is told of a leaf: the first, in the order of the text, of those that leave it undriven.
-- Each when and each statement through indices in turn takes the first outcome that can leave the leaf undriven: 0 before 1, and a miss before a hit.
use Rattle.std.specs.Prelude.{ℕ, ◌+◌, List, [], ◌∷◌, ◌++◌, true, false, not, ◌&&◌, ◌||◌, nat_lt, if◌then◌else◌}
use Rattle.fir_ast.specs.declared.fault.Outcome.{Outcome}
use Rattle.fir_ast.specs.declared.fault.Outcome.TheVariants as outcome
use Rattle.fir_meaning.specs.working.TermReads.{reached, is_picked, is_among}
use Rattle.fir_meaning.specs.working.LeafBlocks.{LeafStatement, LeafBlock, drive, when, instance, done, then}
use Rattle.fir_meaning.specs.working.Choices.{covers_all}
use Rattle.fir_meaning.specs.working.UndrivenChoices.{drives_any}
use Rattle.fir_meaning.specs.Outcomes.{write_told}

-- of a leaf that is declared within so many whens
module _ (depth x : ℕ) where
  abbrev mutual
    pub missed : LeafStatement → ℕ → List Outcome
    missed (drive p b ps t) k = write_told (is_picked ps && is_among (reached b ps) x) p false
    missed (when p c a b) k =
        if nat_lt k depth
        then missed_all a (k + 1) ++ missed_all b (k + 1)
        else if not (drives_any x a || drives_any x b)
        then []
        else if covers_all depth x b (k + 1)
        then outcome.When p true ∷ missed_all a (k + 1)
        else outcome.When p false ∷ missed_all b (k + 1)
    missed (instance i) k = []

    pub missed_all : LeafBlock → ℕ → List Outcome
    missed_all done k = []
    missed_all ((then) s b) k = missed s k ++ missed_all b k
