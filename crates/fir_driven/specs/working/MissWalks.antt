-- The walk that finds the told choice of a leaf: what it tells of the leaf, and the outcomes that it puts behind others.
use Rattle.std.specs.Prelude.{◌≡◌, ℕ, List, ◌++◌, Bool, false}
use Rattle.fir_ast.specs.declared.fault.Outcome.{Outcome}
use Rattle.fir_meaning.specs.working.LeafBlocks.{LeafStatement, LeafBlock}
use Rattle.fir_meaning.specs.working.Choices.{covers, covers_all}
use Rattle.fir_meaning.specs.working.UndrivenChoices.{drives, drives_any}
use Rattle.fir_driven.specs.working.Missed.{missed, missed_all}
use Rattle.fir_driven.specs.declared.choice.Asked.{Asked}
use Rattle.fir_driven.specs.declared.choice.Told.{Told}

-- of a leaf that is not covered the outcomes stand behind those that were there
pub record Misses (is_covered is_driven : Bool) (outcomes : List Outcome) (told : Told) (before after : List Outcome) : Type 0 where
  pub covered : told.covered ≡ is_covered
  pub drives : told.drives ≡ is_driven
  pub added : List Outcome
  pub grows : after ≡ before ++ added
  pub missed : is_covered ≡ false → added ≡ outcomes

-- of a statement and of a block within so many whens
abbrev pub MissesStatement : Asked → LeafStatement → ℕ → Told → List Outcome → List Outcome → Type 0
MissesStatement asked s k told before after =
    Misses (covers asked.depth asked.leaf s k) (drives asked.leaf s) (missed asked.depth asked.leaf s k) told before after

abbrev pub MissesBlock : Asked → LeafBlock → ℕ → Told → List Outcome → List Outcome → Type 0
MissesBlock asked b k told before after =
    Misses (covers_all asked.depth asked.leaf b k) (drives_any asked.leaf b) (missed_all asked.depth asked.leaf b k) told before after
