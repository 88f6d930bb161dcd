-- What a look at one bound does.
use Rattle.std.specs.Prelude.{◌≡◌, ℕ, ◌<◌, List, Bool, true, false, slice_index, slice_set}
use Rattle.fir_least_widths.specs.declared.bound.Bound.{Bound}
use Rattle.fir_least_widths.specs.working.Bounds.{Holds, term_width}
use Rattle.fir_meaning.specs.working.AssignedWidths.{assigned}

-- the unknown of a bound that was not met has risen
pub record Rises (b : Bound) (old new : List ℕ) : Type 0 where
  pub less : slice_index old b.unknown < term_width b.term (assigned old)
  pub set : new ≡ slice_set old b.unknown (term_width b.term (assigned old))

-- the bound is met, and nothing has changed
pub record Stays (b : Bound) (old new : List ℕ) : Type 0 where
  pub holds : Holds b (assigned old)
  pub same : new ≡ old

abbrev pub Raises : Bound → List ℕ → List ℕ → Bool → Type 0
Raises b old new true = Rises b old new
Raises b old new false = Stays b old new
