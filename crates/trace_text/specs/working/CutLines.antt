-- Lines of a simulation that are cut off.
-- A front of the lines of a run is the lines of its first ticks, whole, and behind them a front of the next line, which is less than that line.
use Rattle.std.specs.Prelude.{◌≡◌, ◌≢◌, ℕ, List, [], ◌∷◌, ◌++◌, Bool}
use Rattle.fir_base.specs.Ticks.{TickResult}
use Rattle.trace_text.specs.RunLines.{shown_text, run_text}
use Rattle.trace_text.specs.working.Fronts.{IsFrontOf}

-- a front of the first of the lines that come, less than it; where none comes, nothing
abbrev pub IsCut : List ℕ → List ℕ → Bool → List ℕ → List TickResult → Type 0
IsCut outputs state with_state cut [] = cut ≡ []
IsCut outputs state with_state cut (next ∷ later) = (missing : List ℕ) × (missing ≢ []) × (shown_text outputs state with_state next ≡ cut ++ missing)

-- the whole lines of the first results, and a front of the next line
pub record AreCutLines (outputs state : List ℕ) (with_state : Bool) (shown : List TickResult) (front : List ℕ) : Type 0 where
  pub done : List TickResult
  pub later : List TickResult
  pub parts : shown ≡ done ++ later
  pub cut : List ℕ
  pub front_is : front ≡ run_text outputs state with_state done ++ cut
  pub is_cut : IsCut outputs state with_state cut later

abbrev pub FrontsAreCutLines : Type 0
FrontsAreCutLines =
    (outputs state : List ℕ) (with_state : Bool) (shown : List TickResult) (front : List ℕ)
    → IsFrontOf front (run_text outputs state with_state shown) → AreCutLines outputs state with_state shown front
