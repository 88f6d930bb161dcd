-- The map by which the code finds a word of the state.
use Rattle.std.specs.Prelude.{◌≡◌, ℕ, List}
use Rattle.std.specs.BTreeMap.{BTreeMap, get}
use Rattle.std.specs.Cmp.Lexicographic.{slice_cmp}
use Rattle.std.specs.Ordering.{nat_cmp}
use Rattle.trace_text.specs.declared.shape.StateWord.{StateWord}
use Rattle.trace_text.specs.declared.shape.FoundWord.{FoundWord}
use Rattle.trace_text.specs.Shapes.{found_from}

-- the map has what each name stands for
pub record HasPlaces (places : BTreeMap (List ℕ) FoundWord) (state : List StateWord) : Type 0 where
  pub each : (name : List ℕ) → get (slice_cmp nat_cmp) places name ≡ found_from 0 state name
