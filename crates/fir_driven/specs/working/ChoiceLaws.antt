-- What the told choice is worth: it is the first that leaves the leaf undriven, and a leaf that is covered has none.
use Rattle.std.specs.Prelude.{◌≡◌, ℕ, true, false}
use Rattle.fir_meaning.specs.working.LeafBlocks.{LeafBlock}
use Rattle.fir_meaning.specs.working.Choices.{Choice, covers_all}
use Rattle.fir_meaning.specs.working.UndrivenChoices.{IsFirstUndriven, IsUndriven}
use Rattle.fir_meaning.specs.Outcomes.{told_once}
use Rattle.fir_driven.specs.working.Missed.{missed_all}

abbrev pub CoveredIsDriven : Type 0
CoveredIsDriven = (depth x : ℕ) (b : LeafBlock) (f : Choice) → covers_all depth x b 0 ≡ true → IsUndriven depth x b f → ⊥

abbrev pub MissedIsFirst : Type 0
MissedIsFirst = (depth x : ℕ) (b : LeafBlock) → covers_all depth x b 0 ≡ false → IsFirstUndriven depth x b (told_once (missed_all depth x b 0))
