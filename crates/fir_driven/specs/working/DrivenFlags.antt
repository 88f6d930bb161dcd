-- Leaves that some statement may drive.
use Rattle.std.specs.Prelude.{◌≡◌, ℕ, ◌<◌, List, length, Bool}
use Rattle.fir_meaning.specs.working.LeafBlocks.{LeafBlock}
use Rattle.fir_meaning.specs.working.UndrivenChoices.{drives_any}
use Rattle.fir_driven.specs.working.Covering.{flag_at}

-- one flag for each of so many leaves: whether some statement may drive it
pub record AreDriven (n : ℕ) (b : LeafBlock) (flags : List Bool) : Type 0 where
  pub count : length flags ≡ n
  pub each : (x : ℕ) → x < n → flag_at flags x ≡ drives_any x b
