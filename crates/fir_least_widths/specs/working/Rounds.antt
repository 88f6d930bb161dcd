-- What a round over the first n bounds does.
use Rattle.std.specs.Prelude.{◌≡◌, ℕ, ◌+◌, ◌-◌, ◌<◌, List, [], ◌∷◌, Bool, true, false, length, Some, slice_get}
use Rattle.fir_least_widths.specs.declared.bound.Bound.{Bound}
use Rattle.fir_least_widths.specs.working.Bounds.{Holds, IsBelowAll}
use Rattle.fir_meaning.specs.working.AssignedWidths.{assigned}

-- how far the widths can still rise
abbrev pub room : List ℕ → ℕ
room [] = 0
room (w ∷ ws) = (129 - w) + room ws

-- there is less room if an unknown rose, and else these bounds are met
abbrev pub Result : List Bound → List ℕ → List ℕ → Bool → ℕ → Type 0
Result bounds old new true n = room new < room old
Result bounds old new false n = (new ≡ old) × ((i : ℕ) (b : Bound) → i < n → slice_get bounds i ≡ Some b → Holds b (assigned old))

pub record Round (bounds : List Bound) (old new : List ℕ) (rose : Bool) (n : ℕ) : Type 0 where
  pub long : length new ≡ length old
  pub below : IsBelowAll bounds (assigned old) → IsBelowAll bounds (assigned new)
  pub result : Result bounds old new rose n
